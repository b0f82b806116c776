use Rattle.std.proofs.Common.{◌≡◌, Some, ap, sym, subst, ◌∙◌}
use Rattle.upi_words.specs.Prelude.{Opening, Text, opening}
use Rattle.upi_model.proofs.Gathered.{opening_laws}
use Rattle.txn_shards.specs.Txns.{row_in, rows_all}
use Rattle.core_shards.specs.Tables.{Tables}
use Rattle.core_shards.proofs.Report.{has_row, no_row}
use Rattle.core_shards.proofs.tables.CoreShards.row_named.Goals as goal

pub returns-in_err-row : goal.returns-in_err-row
returns-in_err-row c = λ h o all begun.
    absurd (no_row c.args.self.now.lines h (rows_all c.args.self.now.txns) c.args.txn.now o all.txns_stand begun (c.in_err-row.ensures ∙ ap (λ (v : Tables). row_in (rows_all v.txns) c.args.txn.now) c.self.view_is))

pub returns : goal.returns
returns c = λ h o all begun.
    let S = c.args.self.now.lines in
    let t = c.args.txn.now in
    let same : c.opening.result.now ≡ o =
    c.opening.ensures ∙ has_row S h (rows_all c.args.self.now.txns) t o all.txns_stand begun c.in_ok-row.row.now (c.in_ok-row.ensures ∙ ap (λ (v : Tables). row_in (rows_all v.txns) t) c.self.view_is) in
    let name : t ≡ c.opening.result.now.terms.txn = sym (ap (λ (q : Opening). q.terms.txn) same ∙ opening_laws.named S t h o begun) in
    c.row_of.ensures h o all (subst (λ (u : Text). opening S u h ≡ Some o) name begun) (ap (λ (q : Opening). q.terms) (sym same))
