use Rattle.std.proofs.Common.{◌≡◌, take}
use Rattle.txn_shards.specs.Txns.{all_return, rows_all}
use Rattle.txn_shards.proofs.txns.TxnShards.at_close.Given as goal

abbrev pub invariant-loop-place : goal.invariant-loop-place
invariant-loop-place l = l.out.items ≡ all_return l.dir.lines (take l.place (rows_all l.self))
