use Rattle.std.proofs.Common.{Some, None}
use Rattle.json_tree.proofs.Placed.{placed_list, list_inner, list_small}
use Rattle.json_tree.proofs.spots.list.Goals as goal

pub invariant_of-result : goal.invariant_of-result
invariant_of-result c = record {
  inside = list_inner c.args.spot.now.at c.args.spot.now.within c.in-Some.rest c.in-Some.ensures;
  small = list_small c.args.spot.now.at c.args.spot.now.within c.in-Some.rest c.args.spot.now.most c.args.spot.now.small c.in-Some.ensures;
  fits = c.args.spot.now.fits;
}

pub returns-in-Some-clause-value : goal.returns-in-Some-clause-value
returns-in-Some-clause-value c = placed_list c.args.spot.now.at c.args.spot.now.within (Some c.in-Some.rest) c.in-Some.ensures

pub returns-in-None-clause-value : goal.returns-in-None-clause-value
returns-in-None-clause-value c = placed_list c.args.spot.now.at c.args.spot.now.within None c.in-None.ensures
