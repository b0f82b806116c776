-- The items of each bank, as a table from banks to lists keeps them.
use Rattle.std.specs.Prelude.{Bool, if◌then◌else◌, List, [], ◌∷◌, Option, Some, None}
use Rattle.std.specs.Str.{bytes_eq}
use Rattle.std.specs.declared.alloc.Global.{Global}
use Rattle.std.specs.declared.vec.Vec.{Vec}
use Rattle.indexmap.specs.IndexMap.{IndexMap, get}
use Rattle.upi_words.specs.Prelude.{Text, Item}

-- the items of a list that may not be there
abbrev pub items_in : Option (Vec Item Global) → List Item
items_in None = []
items_in (Some list) = list.items

-- the items that a table has at a bank
abbrev pub list_at : {S : Type 0} → IndexMap Text (Vec Item Global) S → Text → List Item
list_at lists bank = items_in (get bytes_eq lists bank)

-- an item, where a test passes
abbrev pub item_if : Bool → Item → List Item
item_if test item = if test then item ∷ [] else []
