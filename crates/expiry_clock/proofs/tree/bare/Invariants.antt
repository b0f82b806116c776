use Rattle.std.proofs.Common.{◌≡◌, ◌-◌, ◌<◌, ◌≤◌}
use Rattle.expiry_clock.specs.Tree.{span}
use Rattle.expiry_clock.proofs.tree.bare.Given as goal

abbrev pub invariant-doubling : goal.invariant-doubling
invariant-doubling l = (span l.height ≡ l.leaves) × (l.height < l.leaves) × (l.leaves ≤ 2305843009213693952)

abbrev pub decreases-doubling : goal.decreases-doubling
decreases-doubling l = l.needed - l.leaves
