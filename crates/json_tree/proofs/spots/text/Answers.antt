use Rattle.std.proofs.Common.{option_map}
use Rattle.json_tree.proofs.Placed.{placed_text}
use Rattle.json_tree.proofs.spots.text.Goals as goal

pub returns : goal.returns
returns c = placed_text c.args.spot.now.at c.args.spot.now.within (option_map (λ s. s.now) c.as_str.result) c.as_str.ensures
