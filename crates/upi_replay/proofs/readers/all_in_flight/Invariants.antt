use Rattle.std.proofs.Common.{◌≡◌, ◌≤◌, ◌*◌, take}
use Rattle.upi_replay.specs.Rows.{rows_flight}
use Rattle.upi_replay.proofs.readers.all_in_flight.Given as goal

abbrev pub invariant-loop-row : goal.invariant-loop-row
invariant-loop-row l = (l.sum ≡ rows_flight (take l.row-index l.rows)) × (l.sum ≤ 1_000_000_000_000_000 * l.row-index)
