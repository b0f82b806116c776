use Rattle.std.proofs.Common.{ap, ◌∙◌}
use Rattle.std.specs.Prelude.{slice_get}
use Rattle.txn_shard.specs.Rows.{Shard}
use Rattle.txn_shard.proofs.Lists.{value_at, value_none}
use Rattle.txn_shard.proofs.shard.TxnShard.row.Goals as goal

pub returns-in-Some : goal.returns-in-Some
returns-in-Some c =
    value_at c.self.inside.rows.entries c.args.place c.in-Some._txn.now c.in-Some.row.now c.in-Some.ensures.entry ∙ ap (λ (x : Shard). slice_get x.rows c.args.place) c.self.view_is

pub returns-in-None : goal.returns-in-None
returns-in-None c =
    value_none c.self.inside.rows.entries c.args.place c.in-None.ensures.entry ∙ ap (λ (x : Shard). slice_get x.rows c.args.place) c.self.view_is
