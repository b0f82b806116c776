use Rattle.std.proofs.Common.{take}
use Rattle.settlement.specs.calls.Settled.{ListsAll}
use Rattle.settlement.proofs.rows.listed.Given as goal

abbrev pub invariant-loop-row : goal.invariant-loop-row
invariant-loop-row l = ListsAll l.lists (take l.row-index l.rows)
