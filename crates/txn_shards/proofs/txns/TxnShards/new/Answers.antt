use Rattle.std.proofs.Common.{ap, arith, length, List}
use Rattle.txn_shard.specs.Rows.{Shard}
use Rattle.txn_shards.proofs.Histories.{begins}
use Rattle.txn_shards.proofs.txns.TxnShards.new.Goals as goal

pub returns : goal.returns
returns c = λ S.
    let many = c.in_ok-fill.ensures.count in
    let none = ap (λ (xs : List Shard). length xs) c.new-shards.ensures.items in
    begins S c.fill.new.shards.items (omega (arith, many, none)) c.in_ok-fill.ensures.bare
