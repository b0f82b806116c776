use Rattle.std.proofs.Common.{◌≡◌, take, map}
use Rattle.upi_replay.specs.Banked.{row_txn}
use Rattle.upi_replay.proofs.readers.all_txns.Given as goal

abbrev pub invariant-loop-row : goal.invariant-loop-row
invariant-loop-row l = l.all.items ≡ map (row_txn l.setup) (take l.row-index l.rows)
