-- The tokens of a text that was read, and the value that begins among them, seen as `serde_json`'s.
use Rattle.std.specs.Prelude.{ℕ, ◌+◌, ◌-◌, List, [], ◌∷◌, length, Bool, true, false, ◌&&◌, nat_lt, is_some, IsSome, Option, Some, None, if◌then◌else◌}
use Rattle.json.specs.Token.{Token}
use Rattle.json.specs.Token as token
use Rattle.json.specs.Json as json
use Rattle.json.specs.Tree.{json_tokens, items_tokens}
use Rattle.serde_json.specs.Data.{Data, Items}
use Rattle.serde_json.specs.Read.{number_of}
use Rattle.json_tree.specs.Seen.{data_of, items_of}

-- the value that was read, and null where there is none
abbrev pub value_or_null : Option (json.Json × List Token) → json.Json
value_or_null None = json.null
value_or_null (Some p) = p.0

-- the data of the value that tokens begin with
unfoldable pub placed : List Token → Data
placed ts = data_of (value_or_null (json.value (length ts) ts))

-- tokens begin with a value
abbrev pub HasFirst : List Token → Type 0
HasFirst ts = IsSome (json.value (length ts) ts)

-- the items that were read, and none where there are none
abbrev pub items_or_none : Option (json.Items × List Token) → json.Items
items_or_none None = json.no_items
items_or_none (Some p) = p.0

-- the data of the items that tokens begin with, up to the bracket that closes them
unfoldable pub placed_items : List Token → Items
placed_items ts = items_of (items_or_none (json.items (json.value (length ts)) (length ts) ts))

-- tokens begin with items, and the bracket that closes them
abbrev pub HasInner : List Token → Type 0
HasInner ts = IsSome (json.items (json.value (length ts)) (length ts) ts)

-- how many tokens the value has that tokens begin with
unfoldable pub first_size : List Token → ℕ
first_size ts = length (json_tokens (value_or_null (json.value (length ts) ts)))

-- how many tokens the items have that tokens begin with, up to the bracket that closes them
unfoldable pub inner_size : List Token → ℕ
inner_size ts = length (items_tokens (items_or_none (json.items (json.value (length ts)) (length ts) ts)))

-- lists and objects nest no deeper than 127, so many of them being open, and each number is in range
abbrev pub is_fit : ℕ → List Token → Bool
is_fit open_ones [] = true
is_fit open_ones (token.begin_object ∷ ts) = nat_lt open_ones 127 && is_fit (open_ones + 1) ts
is_fit open_ones (token.end_object ∷ ts) = is_fit (open_ones - 1) ts
is_fit open_ones (token.begin_array ∷ ts) = nat_lt open_ones 127 && is_fit (open_ones + 1) ts
is_fit open_ones (token.end_array ∷ ts) = is_fit (open_ones - 1) ts
is_fit open_ones (token.key s ∷ ts) = is_fit open_ones ts
is_fit open_ones (token.string s ∷ ts) = is_fit open_ones ts
is_fit open_ones (token.number s ∷ ts) = is_some (number_of s) && is_fit open_ones ts
is_fit open_ones (token.boolean b ∷ ts) = is_fit open_ones ts
is_fit open_ones (token.null ∷ ts) = is_fit open_ones ts
is_fit open_ones (token.bad ∷ ts) = is_fit open_ones ts

-- how many are open behind a token, where that and its number are fit
abbrev pub after_token : ℕ → Token → Option ℕ
after_token open_ones token.begin_object = if nat_lt open_ones 127 then Some (open_ones + 1) else None
after_token open_ones token.end_object = Some (open_ones - 1)
after_token open_ones token.begin_array = if nat_lt open_ones 127 then Some (open_ones + 1) else None
after_token open_ones token.end_array = Some (open_ones - 1)
after_token open_ones (token.key s) = Some open_ones
after_token open_ones (token.string s) = Some open_ones
after_token open_ones (token.number s) = if is_some (number_of s) then Some open_ones else None
after_token open_ones (token.boolean b) = Some open_ones
after_token open_ones token.null = Some open_ones
after_token open_ones token.bad = Some open_ones
