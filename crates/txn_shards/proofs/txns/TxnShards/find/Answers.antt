use Rattle.std.proofs.Common.{◌∙◌}
use Rattle.txn_shards.proofs.Calls.{IsRead, row_here}
use Rattle.txn_shards.proofs.txns.TxnShards.find.Goals as goal

pub returns : goal.returns
returns c =
    let read : IsRead c.args.self.now c.self.inside.shards.items c.txn_shard-place.result c.index-shard.result.now =
    record { same = c.self.view_is; sixteen = c.self.invariant; within = c.txn_shard-place.ensures.bound; is = c.index-shard.ensures } in
    c.find.ensures ∙ row_here c.args.self.now c.self.inside.shards.items c.txn_shard-place.result c.index-shard.result.now read c.args.txn.now c.txn_shard-place.ensures.value
