use Rattle.std.proofs.Common.{◌≡◌, ◌≤◌, ◌*◌, take}
use Rattle.upi_replay.specs.Rows.{row_total}
use Rattle.upi_replay.proofs.postings.total.Given as goal

abbrev pub invariant-loop-row : goal.invariant-loop-row
invariant-loop-row l = (l.sum ≡ row_total l.setup (take l.row-index l.rows) l.ac l.leg) × (l.sum ≤ 1_000_000_000_000_000 * l.row-index)
