use Rattle.std.proofs.Common.{Some, None}
use Rattle.json_tree.proofs.Placed.{placed_member, found_first, found_small}
use Rattle.json_tree.proofs.spots.member.Goals as goal

pub invariant_of-result : goal.invariant_of-result
invariant_of-result c = record {
  within = found_first c.args.name.now c.args.spot.now.at c.args.spot.now.within c.in-Some.at c.in-Some.ensures;
  small = found_small c.args.name.now c.args.spot.now.at c.args.spot.now.within c.in-Some.at c.args.spot.now.most c.args.spot.now.small c.in-Some.ensures;
  fits = c.args.spot.now.fits;
}

pub returns-in-Some : goal.returns-in-Some
returns-in-Some c = placed_member c.args.name.now c.args.spot.now.at c.args.spot.now.within (Some c.in-Some.at) c.in-Some.ensures

pub returns-in-None : goal.returns-in-None
returns-in-None c = placed_member c.args.name.now c.args.spot.now.at c.args.spot.now.within None c.in-None.ensures
