-- What a list of named values has of one name: no item, one, or several.
use Rattle.std.specs.Prelude.{◌≡◌, ◌≤◌, ◌+◌, ℕ, Some, None}
use Rattle.upi_msg.specs.Types.{Text, Items, no_items}
use Rattle.upi_msg.specs.Named.{count_named, find_named}
use Rattle.upi_msg.specs.declared.named.{Lot.Lot}

-- so much of a list is known, where the items from a number on are still to come
abbrev pub Holds : Text → Items → Lot → ℕ → Items → Type 0
Holds k all Lot.Nothing i rest = (count_named k all ≡ count_named k rest) × (find_named k 0 all ≡ find_named k i rest)
Holds k all (Lot.One n s) i rest = (count_named k all ≡ 1 + count_named k rest) × (find_named k 0 all ≡ Some (n, s.now))
Holds k all Lot.Several i rest = 2 ≤ count_named k all

-- what a list has of a name
abbrev pub IsLot : Lot → Text → Items → Type 0
IsLot Lot.Nothing k ds = (count_named k ds ≡ 0) × (find_named k 0 ds ≡ None)
IsLot (Lot.One n s) k ds = (count_named k ds ≡ 1) × (find_named k 0 ds ≡ Some (n, s.now))
IsLot Lot.Several k ds = 2 ≤ count_named k ds
