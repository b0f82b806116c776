use Rattle.std.proofs.Common.{◌≡◌, drop}
use Rattle.upi_replay.specs.Rows.{row_at}
use Rattle.upi_replay.proofs.rows.row_at.Given as goal

abbrev pub invariant-loop-row : goal.invariant-loop-row
invariant-loop-row l = row_at (drop l.row-index l.rows) l.txn ≡ row_at l.rows l.txn
