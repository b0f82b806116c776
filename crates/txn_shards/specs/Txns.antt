-- What a contract sees of the sixteen shards of transactions: for which entries they stand, and what is planned of a call.
use Rattle.std.specs.Prelude.{ℕ, zero, suc, ◌≡◌, ◌<◌, List, [], ◌∷◌, ◌++◌, Option, Some, None, IsSomeAnd, length, map, slice_get}
use Rattle.std.specs.List.{flat_map}
use Rattle.std.specs.Option.{option_and_then}
use Rattle.upi_base.specs.Shards.{txn_shard}
use Rattle.upi_words.specs.Prelude.{Call, Opening, Owner, Sent, Setup, History, Text}
use Rattle.upi_model.specs.Fits.{owner_with}
use Rattle.upi_model.specs.Own.{Deed, delivered_with, event_with, own_deeds}
use Rattle.txn_row.specs.Rows.{Course}
use Rattle.txn_shard.specs.Rows.{Shard, IsDueOf, row_at, rows_return}
use Rattle.txn_shard.specs.Shard.{Stands, Plan, IsPlanned, MakesAll, rows_after}
use Rattle.txn_shard.specs.declared.step.{Change.Change}

-- the rows of each shard
abbrev pub rows_of : Shard → List Course
rows_of x = x.rows

-- a shard has no row yet
abbrev pub IsBare : Shard → Type 0
IsBare x = x.rows ≡ []

-- the rows of the sixteen, shard after shard
abbrev pub rows_all : List Shard → List (List Course)
rows_all xs = map rows_of xs

-- There are sixteen shards, and each is that of its number over the setup, after its own entries.
pub record StandTxns (S : Setup) (mine : ℕ → List Deed) (rss : List (List Course)) : Type 0 where
  pub sixteen : length rss ≡ 16
  pub each : (s : ℕ) (rows : List Course) → slice_get rss s ≡ Some rows → Stands S s (mine s) rows

-- the entries of each shard of transactions in a history
abbrev pub entries_in : History → ℕ → List Deed
entries_in h s = own_deeds (Owner.Txns s) h

-- what is planned of a call: at which shard, and what there
pub record Placed : Type 0 where
  pub place : ℕ
  pub plan : Plan

-- the shard is as it was where this was planned
abbrev pub IsPlannedIn : List Shard → Placed → Type 0
IsPlannedIn xs x = IsSomeAnd (slice_get xs x.place) (λ (s : Shard). IsPlanned s x.plan)

-- What is planned of a call, with the message that it is about, over these rows: at the shard that owns the call, and by that one's rows.
pub record MakesIn (S : Setup) (rss : List (List Course)) (c : Call) (m : Option Sent) (now : ℕ) (x : Placed) : Type 0 where
  pub owner : owner_with m c ≡ Owner.Txns x.place
  pub within : x.place < 16
  pub makes : (rows : List Course) → slice_get rss x.place ≡ Some rows → MakesAll S x.place rows (event_with m c) (delivered_with m c) now x.plan

-- the rows of all shards, of which those of one have changed
abbrev pub rows_with : List (List Course) → ℕ → Change → List (List Course)
rows_with [] k c = []
rows_with (rows ∷ rss) zero c = rows_after rows c ∷ rss
rows_with (rows ∷ rss) (suc k) c = rows ∷ rows_with rss k c

-- the row of a transaction, in its shard
abbrev pub row_in : List (List Course) → Text → Option Course
row_in rss t = option_and_then (λ (rows : List Course). row_at rows t) (slice_get rss (txn_shard t))

-- the name of an opened transaction
abbrev pub name_of : Opening → Text
name_of o = o.terms.txn

-- what all shards would make arrive at a Close, shard after shard
abbrev pub all_return : Setup → List (List Course) → List Sent
all_return S rss = flat_map (rows_return S) rss

-- what a shard would make arrive, if there is one
abbrev pub returns_of : Setup → Option (List Course) → List Sent
returns_of S None = []
returns_of S (Some rows) = rows_return S rows

-- a list with what is due by now of the shard at a place behind it
pub record Appends (now : ℕ) (rss : List (List Course)) (place : ℕ) (old new : List (ℕ × Text)) : Type 0 where
  pub found : List (ℕ × Text)
  pub is : new ≡ old ++ found
  pub due : (rows : List Course) → slice_get rss place ≡ Some rows → IsDueOf now rows found
