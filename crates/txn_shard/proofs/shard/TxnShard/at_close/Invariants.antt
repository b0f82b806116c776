use Rattle.std.proofs.Common.{◌≡◌, take}
use Rattle.std.specs.List.{flat_map}
use Rattle.txn_row.specs.Rows.{row_returns}
use Rattle.txn_shard.proofs.shard.TxnShard.at_close.Given as goal

abbrev pub invariant-rows : goal.invariant-rows
invariant-rows l = l.out.items ≡ flat_map (row_returns l.dir.lines) (take l.place l.self.rows)
