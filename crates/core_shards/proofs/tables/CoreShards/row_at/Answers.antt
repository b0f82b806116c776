use Rattle.std.proofs.Common.{ap, ◌∙◌}
use Rattle.std.specs.Prelude.{slice_get}
use Rattle.core_shards.specs.Tables.{Tables}
use Rattle.core_shards.proofs.Report.{name_at, row_by}
use Rattle.core_shards.proofs.tables.CoreShards.row_at.Goals as goal

pub returns : goal.returns
returns c = λ h all.
    let S = c.args.self.now.lines in
    row_by S h c.args.place c.in_ok-txn.txn.now c.row_named.result
    (c.in_ok-txn.ensures ∙ ap (λ (v : Tables). slice_get v.opened.names c.args.place) c.self.view_is ∙ name_at S h c.args.self.now.opened.names c.args.place all.names_are) (λ o begun. c.row_named.ensures h o all begun)
