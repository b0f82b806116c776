use Rattle.std.proofs.Common.{◌≡◌, ◌++◌, take, drop, map}
use Rattle.upi_replay.specs.Rows.{row_after}
use Rattle.upi_replay.proofs.found.advance_rows.Given as goal

abbrev pub invariant-loop-row : goal.invariant-loop-row
invariant-loop-row l = l.rows ≡ map (row_after l.setup l.said l.closed l.event l.now) (take l.row-index l.fn.rows) ++ drop l.row-index l.fn.rows
