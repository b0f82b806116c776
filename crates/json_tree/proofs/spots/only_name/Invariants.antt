use Rattle.std.proofs.Common.{ℕ, length}
use Rattle.serde_json.specs.Find.{as_object}
use Rattle.json_tree.specs.Seen.{only_of, name_of}
use Rattle.json_tree.specs.Spots.{spot_data}
use Rattle.json_tree.proofs.Placed.{Going}
use Rattle.json_tree.proofs.spots.only_name.Given as goal

abbrev pub invariant-members : goal.invariant-members
invariant-members l = Going l.members l.first.0.now (name_of (only_of (as_object (spot_data l.spot))))

abbrev pub decreases-members : goal.decreases-members
decreases-members l = length l.members
