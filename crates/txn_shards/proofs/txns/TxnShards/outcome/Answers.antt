use Rattle.std.proofs.Common.{◌∙◌}
use Rattle.txn_shards.proofs.Calls.{IsRead, stands_here}
use Rattle.txn_shards.proofs.Outcomes.{outcome_open, outcome_shut}
use Rattle.txn_shards.proofs.txns.TxnShards.outcome.Goals as goal

pub returns-then-closed : goal.returns-then-closed
returns-then-closed c = λ S h is all.
    let read : IsRead c.args.self.now c.self.inside.shards.items c.txn_shard-place.result c.index-shard.result.now =
    record { same = c.self.view_is; sixteen = c.self.invariant; within = c.txn_shard-place.ensures.bound; is = c.index-shard.ensures } in
    c.closed_outcome.ensures
    ∙ outcome_shut S h c.args.txn.now c.index-shard.result.now.rows (is ∙ c.if-closed.true) (stands_here c.args.self.now c.self.inside.shards.items c.txn_shard-place.result c.index-shard.result.now read S h c.args.txn.now c.txn_shard-place.ensures.value all)

pub returns-else-closed : goal.returns-else-closed
returns-else-closed c = λ S h is all.
    let read : IsRead c.args.self.now c.self.inside.shards.items c.txn_shard-place.result c.index-shard.result.now =
    record { same = c.self.view_is; sixteen = c.self.invariant; within = c.txn_shard-place.ensures.bound; is = c.index-shard.ensures } in
    c.outcome.ensures
    ∙ outcome_open S h c.args.txn.now c.index-shard.result.now.rows (is ∙ c.if-closed.false) (stands_here c.args.self.now c.self.inside.shards.items c.txn_shard-place.result c.index-shard.result.now read S h c.args.txn.now c.txn_shard-place.ensures.value all)
