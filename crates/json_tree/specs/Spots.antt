-- A spot in a text that was read, seen as the value that begins there.
use Rattle.serde_json.specs.Data.{Data, Items}
use Rattle.std.specs.Prelude.{ℕ}
use Rattle.json_tree.specs.Placed.{placed, placed_items, inner_size}
use Rattle.json_tree.specs.declared.begin.{Spot.Spot, Spots.Spots}

-- the data of the value at a spot
abbrev pub spot_data : Spot → Data
spot_data s = placed s.at

-- the data of the items from a spot on
abbrev pub spots_data : Spots → Items
spots_data s = placed_items s.rest

-- how many tokens there are from a spot on, up to the end of its list
abbrev pub spots_size : Spots → ℕ
spots_size s = inner_size s.rest

-- how many items came before a spot in its list
abbrev pub spots_passed : Spots → ℕ
spots_passed s = s.passed
