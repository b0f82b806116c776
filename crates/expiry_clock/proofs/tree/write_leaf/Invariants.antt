use Rattle.expiry_clock.proofs.Repairs.{IsRepaired}
use Rattle.expiry_clock.proofs.tree.write_leaf.Given as goal

abbrev pub invariant-above : goal.invariant-above
invariant-above l = IsRepaired l.leaves l.node l.at l.value l.fn.cells l.cells

abbrev pub decreases-above : goal.decreases-above
decreases-above l = l.node
