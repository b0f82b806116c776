-- Lists of named values, as `Detail` and `Rule` are.
use Rattle.std.specs.Prelude.{◌≡◌, ℕ, ◌+◌, ◌==◌, Bool, false, [], Option, Some, None, option_and_then, unwrap_or, Result, Ok, codes, if◌then◌else◌}
use Rattle.std.specs.Option.{option_map_or}
use Rattle.std.specs.Str.{bytes_eq}
use Rattle.serde_json.specs.Find.{get, as_str}
use Rattle.upi_msg.specs.Types.{Text, Data, Items, no_items, item}
use Rattle.upi_msg.specs.Members.{◌>>=◌, object_of, text_at}
use Rattle.upi_msg.specs.declared.place.{Part.Part, Name.Name, Place.Place, Fault.Fault}

-- an item has to be an object with the texts `name` and `value`; it gives the second
unfoldable pub named_item : Part → Name → ℕ → Data → Result Text Fault
named_item p n i d = do
  o ← object_of (Place.Item p n i) d
  name ← text_at (Place.InItem p n i Name.Name) Name.Name o
  text_at (Place.InItem p n i Name.Value) Name.Value o

-- each item has to be so, from the item of a number on; it gives how many there are, with those before
abbrev pub named_items : Part → Name → ℕ → Items → Result ℕ Fault
named_items p n i no_items = Ok i
named_items p n i (item d ds) = named_item p n i d >>= λ _. named_items p n (i + 1) ds

-- each item is so
abbrev pub IsNamedList : Result ℕ Fault → Type 0
IsNamedList r = (n : ℕ) × (r ≡ Ok n)

-- an item has this name
abbrev pub is_named : Text → Data → Bool
is_named k d = option_map_or (λ s. bytes_eq s k) (option_and_then as_str (get (codes "name") d)) false

-- how many items have this name
abbrev pub count_named : Text → Items → ℕ
count_named k no_items = 0
count_named k (item d ds) = (if is_named k d then 1 else 0) + count_named k ds

-- the value of an item
abbrev pub value_of : Data → Text
value_of d = unwrap_or (option_and_then as_str (get (codes "value") d)) []

-- the first item of this name: its number, where the first of the list has this one, and its value
abbrev pub find_named : Text → ℕ → Items → Option (ℕ × Text)
find_named k i no_items = None
find_named k i (item d ds) = if is_named k d then Some (i, value_of d) else find_named k (i + 1) ds

-- the one item of this name
unfoldable pub only_named : Text → Items → Option (ℕ × Text)
only_named k ds = if count_named k ds == 1 then find_named k 0 ds else None
