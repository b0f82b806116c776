use Rattle.std.proofs.Common.{◌≤◌}
use Rattle.expiry_clock.proofs.Plants.{IsFilled}
use Rattle.expiry_clock.proofs.tree.plant.Given as goal

abbrev pub invariant-rows : goal.invariant-rows
invariant-rows l = IsFilled l.tree.leaves l.tree.height l.at l.tree.cells.items l.rows.entries × (l.needed ≤ l.tree.leaves)
