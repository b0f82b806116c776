use Rattle.std.proofs.Common.{ap, ◌∙◌}
use Rattle.txn_shard.specs.Rows.{Shard, due_at}
use Rattle.txn_shard.proofs.shard.TxnShard.due_moment.Goals as goal

pub returns : goal.returns
returns c = c.get.ensures ∙ c.self.invariant.dues_are c.args.txn.now ∙ ap (λ (x : Shard). due_at x.rows c.args.txn.now) c.self.view_is
