use Rattle.std.proofs.Common.{List, [], ◌∷◌, ◌≡◌, ◌++◌, ◌∙◌, map, subst}
use Rattle.std.specs.List.{flat_map}
use Rattle.upi_model.specs.Settlement.{recon_items}
use Rattle.upi_words.specs.Prelude.{Text, TxnRow, Recon}
use Rattle.recon_report.specs.calls.Pages.{Out, Adds}
use Rattle.recon_report.specs.Report.{Line, header, outcome_line, settle_lines, net_line, recon_line, balance_line, flight_line}
use Rattle.recon_report.proofs.Joins.{both}
use Rattle.recon_report.proofs.whole.write.Goals as goal

pub returns : goal.returns
returns c =
    let rows : List TxnRow = c.args.rows.now in
    let settled : List TxnRow = c.args.settlement.now in
    let banks : List Text = c.args.banks.now in
    let start : Out = c.args.page.now.writer in
    let o1 : Out = c.header.new.self.writer in
    let o2 : Out = c.outcomes.new.page.writer in
    let o3 : Out = c.settled.new.page.writer in
    let o4 : Out = c.nets.new.page.writer in
    let o5 : Out = c.reconciled.new.page.writer in
    let o6 : Out = c.balances.new.page.writer in
    let end : Out = c.flight_line.new.page.writer in
    let held : List Line = map balance_line c.args.balances.now in
    let last : List Line = flight_line c.args.flight ∷ [] in
    let names : List Line = header ∷ [] in
    let outcomes : List Line = flat_map outcome_line rows in
    let lists : List Line = flat_map (settle_lines settled) banks in
    let nets : List Line = map (net_line settled) banks in
    let items : List Recon = c.deref.result.now in
    let recons : List Line = map recon_line items in
    let p2 = both start o1 o2 names outcomes c.in_ok-header.ensures c.in_ok-outcomes.ensures in
    let p3 = both start o2 o3 (names ++ outcomes) lists p2 c.in_ok-settled.ensures in
    let p4 = both start o3 o4 (names ++ outcomes ++ lists) nets p3 c.in_ok-nets.ensures in
    let p5 = both start o4 o5 (names ++ outcomes ++ lists ++ nets) recons p4 c.in_ok-reconciled.ensures in
    let p6 = both start o5 o6 (names ++ outcomes ++ lists ++ nets ++ recons) held p5 c.in_ok-balances.ensures in
    let p7 = both start o6 end (names ++ outcomes ++ lists ++ nets ++ recons ++ held) last p6 c.in_ok-flight_line.ensures in
    let listed : items ≡ recon_items settled = c.deref.ensures.value ∙ c.in_ok-items.ensures in
    let by_items : List Recon → Type 0 = λ list. Adds start end (names ++ outcomes ++ lists ++ nets ++ map recon_line list ++ held ++ last) in
    let by_rows : List TxnRow → Type 0 =
    λ list. Adds start end (names ++ outcomes ++ flat_map (settle_lines list) banks ++ map (net_line list) banks ++ map recon_line (recon_items list) ++ held ++ last) in
    subst by_rows c.requires.same (subst by_items listed p7)
