-- What a contract sees of an index of due moments.
use Rattle.std.specs.Prelude.{ℕ, ◌≡◌, ◌≤◌, ◌↔◌, min, nat_le, if◌then◌else◌, List, [], ◌∷◌, map, Option, Some, None, Contains, IsSorted}
use Rattle.std.specs.List.{IsDistinct}
use Rattle.std.specs.Option.{option_map_or}
use Rattle.std.specs.Ordering.{nat_cmp, ordering_then}
use Rattle.std.specs.declared.cmp.Ordering.{Ordering}
use Rattle.std.specs.Cmp.Lexicographic.{slice_cmp}
use Rattle.std.specs.Str.{bytes_eq}
use Rattle.std.specs.Map.{lookup}
use Rattle.upi_base.specs.Names.{Text}

-- transactions with their due moments
abbrev pub Rows : Type 0
Rows = List (Text × ℕ)

-- the transactions that have a due moment, in some order, and how many more there is room for
pub record Dues : Type 0 where
  pub rows : Rows
  pub spare : ℕ

-- the due moment of a transaction, if it has one
abbrev pub moment_of : Dues → Text → Option ℕ
moment_of dues txn = lookup (bytes_eq txn) dues.rows

-- what is due at a moment: each due moment that is not after it, with its transaction
abbrev pub due_rows : ℕ → Rows → List (ℕ × Text)
due_rows now [] = []
due_rows now (r ∷ rs) = if nat_le r.1 now then (r.1, r.0) ∷ due_rows now rs else due_rows now rs

-- the least of all due moments
abbrev pub least_of : Rows → Option ℕ
least_of [] = None
least_of (r ∷ rs) = Some (option_map_or (λ (m : ℕ). min r.1 m) (least_of rs) r.1)

-- by the due moment, then by the bytes of the transaction's name
abbrev pub due_cmp : ℕ × Text → ℕ × Text → Ordering
due_cmp a b = ordering_then (nat_cmp a.0 b.0) (slice_cmp nat_cmp a.1 b.1)

-- The list of what is due at a moment: a transaction is in it with a moment exactly where this is its due moment and isn't after now;
-- none is in it twice; and it goes by the due moment, then by the bytes of the name. This speaks of the due moments alone, and there is one such list.
pub record IsDueList (now : ℕ) (dues : Dues) (found : List (ℕ × Text)) : Type 0 where
  pub due : (txn : Text) (at : ℕ) → Contains found (at, txn) ↔ ((moment_of dues txn ≡ Some at) × (at ≤ now))
  pub once : IsDistinct bytes_eq (map (λ (d : ℕ × Text). d.1) found)
  pub sorted : IsSorted due_cmp found
