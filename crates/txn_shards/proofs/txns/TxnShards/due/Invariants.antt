use Rattle.txn_shards.specs.Txns.{rows_all}
use Rattle.txn_shards.proofs.DueLists.{Collected}
use Rattle.txn_shards.proofs.txns.TxnShards.due.Given as goal

abbrev pub invariant-loop-place : goal.invariant-loop-place
invariant-loop-place l = Collected l.now (rows_all l.self) l.place l.out.items
