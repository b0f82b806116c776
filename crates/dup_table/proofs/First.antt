-- A key that is new goes last.
use Rattle.std.proofs.Common.{◌≡◌, Bool, true, false, cond, List, [], ◌∷◌, ◌++◌, Option, Some, None, refl, sym, ◌∙◌, ap}
use Rattle.std.specs.Option.{option_or}
use Rattle.std.specs.Map.{lookup}
use Rattle.upi_base.specs.Lists.{when}
use Rattle.indexmap.specs.IndexMap.{IndexMap, get, insert_entry, spare}
use Rattle.indexmap.proofs.CallerLemmas.{insert_entry-new}
use Rattle.dup_table.specs.Table.{Table, value_of, with_row}

module _ {K V S : Type 0} (eq : K → K → Bool) (m : IndexMap K V S) (t : Table K V) (key : K) (value : V) where
  -- what is known where a key that isn't there was inserted
  pub add_new : (rows : List (K × V)) → record { rows = m.entries; spare = spare m } ≡ t → value_of eq t key ≡ None → rows ≡ insert_entry eq m.entries key value → rows ≡ with_row t key value
  add_new rows view new is = is ∙ insert_entry-new eq m key value (ap (λ (u : Table K V). value_of eq u key) view ∙ new) ∙ ap (λ (u : Table K V). with_row u key value) view

-- what each key has with one row more: what it had, and else the row's value where the row's key is equal to it
pub value_of-with_row : {K V : Type 0} (eq : K → K → Bool) (t : Table K V) (key : K) (value : V) (q : K)
    → lookup (eq q) (with_row t key value) ≡ option_or (value_of eq t q) (when (eq q key) value)
value_of-with_row {K} {V} eq t key value q = go t.rows
  where
    go : (rows : List (K × V)) → lookup (eq q) (rows ++ (key, value) ∷ []) ≡ option_or (lookup (eq q) rows) (when (eq q key) value)
    go [] = refl
    go (r ∷ rows) = either (eq q r.0) (go rows)
      where
        either : (b : Bool) → lookup (eq q) (rows ++ (key, value) ∷ []) ≡ option_or (lookup (eq q) rows) (when (eq q key) value)
            → cond b (Some r.1) (lookup (eq q) (rows ++ (key, value) ∷ [])) ≡ option_or (cond b (Some r.1) (lookup (eq q) rows)) (when (eq q key) value)
        either true later = refl
        either false later = later
