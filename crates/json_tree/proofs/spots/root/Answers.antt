use Rattle.std.proofs.Common.{length, ap, arith}
use Rattle.json_tree.proofs.Placed.{has_first, root_small}
use Rattle.json_tree.proofs.spots.root.Goals as goal

pub invariant_of-result : goal.invariant_of-result
invariant_of-result c = record {
  within = has_first c.root.result c.root.ensures.value;
  small = omega (arith, root_small c.root.result c.root.ensures.value, ap length c.root.ensures.same, c.len.ensures);
  fits = omega arith;
}
