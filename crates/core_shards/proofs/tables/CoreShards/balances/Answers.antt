use Rattle.std.proofs.Common.{◌≡◌, ℕ, ◌<◌, ◌≤◌, List, ◌++◌, length, get_or, map, take, ap, sym, subst, ◌∙◌}
use Rattle.std.proofs.lemmas.List.{map-append, take_all}
use Rattle.upi_base.specs.declared.setup.Setup.{Setup as Directory}
use Rattle.upi_base.specs.Setup.{accounts, line_accounts}
use Rattle.upi_laws.proofs.Setups.{accounts_found}
use Rattle.upi_words.specs.Prelude.{AccountRef, Setup}
use Rattle.core_shards.specs.Tables.{Tables, with_balance}
use Rattle.core_shards.proofs.Sums.{accounts_line, line_named}
use Rattle.core_shards.proofs.tables.CoreShards.balances.Goals as goal

pub loop-at-preserved : goal.loop-at-preserved
loop-at-preserved c = λ h all.
    let S = c.args.self.now.lines in
    let k = c.loop-at.at in
    let line = c.index-lines-at.result in
    let same : c.items-lines.result.now ≡ S = c.items-lines.ensures ∙ ap (λ (d : Directory). d.lines) c.setup.ensures.same ∙ ap (λ (v : Tables). v.lines) c.self.view_is in
    let lt : k < length S = subst (λ (T : Setup). k < length T) same c.loop-at-test.true in
    let is : line ≡ get_or S k line = c.index-lines-at.is ∙ ap (λ (T : Setup). get_or T k line) same in
    c.in_ok-add_balance.ensures h all (line_named S S k line (accounts_found S all.accepted) lt is)
    ∙ ap (λ (xs : List (AccountRef × ℕ)). xs ++ map (with_balance S h) (line_accounts line)) (c.loop-at.invariant h all)
    ∙ sym (map-append (with_balance S h) (accounts (take k S)) (line_accounts line))
    ∙ ap (map (with_balance S h)) (sym (accounts_line S k line lt is))

pub returns : goal.returns
returns c = λ h all.
    let S = c.args.self.now.lines in
    let same : c.items-lines.result.now ≡ S = c.items-lines.ensures ∙ ap (λ (d : Directory). d.lines) c.setup.ensures.same ∙ ap (λ (v : Tables). v.lines) c.self.view_is in
    let le : length S ≤ c.loop-at.at = subst (λ (T : Setup). length T ≤ c.loop-at.at) same c.loop-at-test.false in
    c.loop-at.invariant h all ∙ ap (λ (T : Setup). map (with_balance S h) (accounts T)) (take_all c.loop-at.at S le)
