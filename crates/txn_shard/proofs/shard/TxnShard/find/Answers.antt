use Rattle.std.proofs.Common.{ap, ◌∙◌}
use Rattle.txn_shard.specs.Rows.{Shard, row_at}
use Rattle.txn_shard.proofs.Kept.{found_row}
use Rattle.txn_shard.proofs.shard.TxnShard.find.Goals as goal

pub returns : goal.returns
returns c =
    c.get.ensures.value ∙ found_row c.self.inside.rows.entries c.args.txn.now c.self.invariant.keyed ∙ ap (λ (x : Shard). row_at x.rows c.args.txn.now) c.self.view_is
