-- What seats have added to words.
use Rattle.std.specs.Prelude.{◌≡◌, ℕ, ◌+◌, ◌*◌, ◌<◌, ◌≤◌, List, [], ◌∷◌, length, slice_index}
use mathlib.Core.Option.{some}
use lib.ListN.{get_elem?}
use Rattle.atomic_table.specs.Table.{State, Me, Step}
use Rattle.atomic_table.specs.Seated.{TableId}
use Rattle.atomic_table.specs.declared.shared.Seat.{Seat}
use Rattle.bank_positions.specs.declared.rule.Sums.{Sums}
use Rattle.part_sums.specs.Totals.{total}
use Rattle.bank_positions.specs.Sums.{more}

-- so many parts, with which this was added to each word
abbrev pub sums : ℕ → List ℕ → Sums
sums parts added = record { parts = parts; added = added }

-- two lists of sums, place by place
abbrev pub both : List ℕ → List ℕ → List ℕ
both [] ys = ys
both (x ∷ xs) [] = x ∷ xs
both (x ∷ xs) (y ∷ ys) = (x + y) ∷ both xs ys

-- what two seats have together
abbrev pub joined : Sums → Sums → Sums
joined v w = sums (v.parts + w.parts) (both v.added w.added)

-- what was added to the word is added to its sum
abbrev pub Adds : Step Unit → Me Unit Sums → ℕ → Me Unit Sums → Type 0
Adds s v found w = w ≡ (sums v.0.parts (more v.0.added s.word s.first), v.1)

-- nothing changes. Who has every part, one for each slot, finds its own sum in the word
abbrev pub Reads : Step Unit → Me Unit Sums → ℕ → Me Unit Sums → Type 0
Reads s v found w = (w ≡ v) × (v.0.parts ≡ s.slots → found ≡ slice_index v.0.added s.word)

-- of a table of n words: each is the total of what the seats have added to it. There is one part for each slot, at most 16, and a part is the right to have added less than 2^60
pub record Held (n : ℕ) (s : State Unit Sums) : Type 0 where
  pub long : length s.words ≡ n
  pub words : (i : ℕ) → i < n → slice_index s.words i ≡ total (λ v. slice_index v.added i) s.views
  pub parts : total (λ v. v.parts) s.views ≡ length s.homes
  pub few : length s.homes ≤ 16
  pub small : (id : ℕ) (v : Sums) → get_elem? s.views id ≡ some v → (i : ℕ) → slice_index v.added i ≤ v.parts * 1152921504606846975

-- a table of three words for each bank, which its key also counts, and one slot for each shard
pub record IsLaid (name : TableId) (words banks shards : ℕ) : Type 0 where
  pub words_are : (name.words ≡ banks * 3) × (words ≡ banks * 3)
  pub slots_are : name.slots ≡ shards
  pub some_banks : 0 < banks
  pub some_shards : 0 < shards

-- sums without a name: a seat that has every part of its table, and has added nothing
pub record IsBlank (name : TableId) (words banks shards : ℕ) (seat : Seat Unit Sums) : Type 0 where
  pub laid : IsLaid name words banks shards
  pub table : seat.table_id ≡ name
  pub whole : seat.me ≡ (sums shards [], [])

-- a seat of the table that has one part and holds no slot
pub record IsSeat (name : TableId) (seat : Seat Unit Sums) : Type 0 where
  pub table : seat.table_id ≡ name
  pub slots : seat.me.1 ≡ []
  pub part : seat.me.0.parts ≡ 1

-- a seat that has so many parts, and has added what the shares have
pub record Knows (name : TableId) (n : ℕ) (shares : List (List ℕ)) (seat : Seat Unit Sums) : Type 0 where
  pub table : seat.table_id ≡ name
  pub slots : seat.me.1 ≡ []
  pub parts : seat.me.0.parts ≡ n
  pub added : (i : ℕ) → slice_index seat.me.0.added i ≡ total (λ s. slice_index s i) shares
