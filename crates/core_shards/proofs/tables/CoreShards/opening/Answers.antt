use Rattle.std.proofs.Common.{◌≡◌, Some, None, ap, sym, ◌∙◌}
use Rattle.std.specs.Option.{option_copied, option_map}
use Rattle.upi_words.specs.Prelude.{Opening}
use Rattle.txn_row.specs.Rows.{Course}
use Rattle.txn_shards.specs.Txns.{row_in, rows_all}
use Rattle.txn_shards.proofs.Gathered.{txn_laws}
use Rattle.core_shards.specs.Tables.{Tables}
use Rattle.core_shards.proofs.tables.CoreShards.opening.Goals as goal

pub returns-in-Some : goal.returns-in-Some
returns-in-Some c = λ h all.
    let found : Some c.in-Some.row.now ≡ row_in (rows_all c.args.self.now.txns) c.args.txn.now = sym (ap option_copied c.in-Some.is) ∙ c.find.ensures ∙ ap (λ (v : Tables). row_in (rows_all v.txns) c.args.txn.now) c.self.view_is in
    ap (λ (q : Opening). Some q) c.opening.ensures ∙ ap (option_map (λ (x : Course). x.opening)) found ∙ txn_laws.rows c.args.self.now.lines h (rows_all c.args.self.now.txns) c.args.txn.now all.txns_stand

pub returns-in-None : goal.returns-in-None
returns-in-None c = λ h all.
    let found : None ≡ row_in (rows_all c.args.self.now.txns) c.args.txn.now = sym (ap option_copied c.in-None.is) ∙ c.find.ensures ∙ ap (λ (v : Tables). row_in (rows_all v.txns) c.args.txn.now) c.self.view_is in
    ap (option_map (λ (x : Course). x.opening)) found ∙ txn_laws.rows c.args.self.now.lines h (rows_all c.args.self.now.txns) c.args.txn.now all.txns_stand
