use Rattle.std.proofs.Common.{List, ℕ, option_map, ap, ◌∙◌}
use Rattle.serde_json.specs.Data.{Data}
use Rattle.json_tree.specs.Spots.{spot_data}
use Rattle.json_tree.proofs.Seen.{one_member}
use Rattle.json_tree.proofs.spots.only_member.Goals as goal

pub returns-in-Some : goal.returns-in-Some
returns-in-Some c = ap (option_map {U = List ℕ × Data} (λ v. (c.in_ok-name.name.now, v))) c.in-Some.ensures ∙ one_member (spot_data c.args.spot.now) c.in_ok-name.name.now c.in_ok-name.ensures

pub returns-in-None : goal.returns-in-None
returns-in-None c = ap (option_map {U = List ℕ × Data} (λ v. (c.in_ok-name.name.now, v))) c.in-None.ensures ∙ one_member (spot_data c.args.spot.now) c.in_ok-name.name.now c.in_ok-name.ensures
