use Rattle.std.proofs.Common.{◌∙◌}
use Rattle.json_tree.proofs.Placed.{placed_object}
use Rattle.json_tree.proofs.spots.is_object.Goals as goal

pub returns : goal.returns
returns c = c.is_some.ensures ∙ placed_object c.args.spot.now.at c.args.spot.now.within c.members.result c.members.ensures
