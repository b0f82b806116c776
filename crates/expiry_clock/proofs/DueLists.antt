-- What is due, free of the order in which it is kept.
use Rattle.std.proofs.Common.{◌≡◌, ℕ, zero, suc, ◌+◌, ◌<◌, ◌≤◌, Bool, true, false, cond, List, [], ◌∷◌, length, map, get_or, Option, Some, None, refl, sym, ap, subst, ◌∙◌, arith}
use Rattle.std.specs.Prelude.{nat_le, slice_get, Contains, IsPermutation, IsSorted}
use Rattle.std.specs.List.{IsDistinct, AllByRecursion}
use Rattle.std.specs.Cmp.Lexicographic.{nat_list_eq_equiv}
use Rattle.std.specs.Map.{lookup, keys_of}
use Rattle.std.specs.Str.{bytes_eq}
use Rattle.std.proofs.lemmas.Bool.{both_ways}
use Rattle.std.proofs.lemmas.Bool.Decides.{nat_tests}
use Rattle.std.proofs.lemmas.Slice.Eq.{bytes_eq-Decides}
use Rattle.std.proofs.lemmas.List.Sorted.{IsPermutation-map, IsPermutation-sym, Contains-permutation}
use Rattle.std.proofs.lemmas.Map.Keys.{IsDistinct-IsPermutation}
use Rattle.std.proofs.lemmas.Map.Entries.{lookup_from_place}
use Rattle.upi_base.specs.Names.{Text}
use Rattle.expiry_clock.specs.Dues.{Dues, Rows, moment_of, due_rows, due_cmp, IsDueList}

bytes_flip : (a b : Text) → bytes_eq a b ≡ bytes_eq b a
bytes_flip a b = go (bytes_eq a b) refl (bytes_eq b a) refl
  where
    go : (x : Bool) → bytes_eq a b ≡ x → (y : Bool) → bytes_eq b a ≡ y → x ≡ y
    go true p true q = refl
    go false p false q = refl
    go true p false q = absurd (both_ways (bytes_eq b a) q ((bytes_eq-Decides b a).1 (sym ((bytes_eq-Decides a b).0 p))))
    go false p true q = absurd (both_ways (bytes_eq a b) p ((bytes_eq-Decides a b).1 (sym ((bytes_eq-Decides b a).0 q))))

low : (a b : ℕ) → nat_le a b ≡ true → a ≤ b
low a b h = grind (arith, nat_tests)

-- a row that is due, as it stands in the list
abbrev turned : Text × ℕ → ℕ × Text
turned r = (r.1, r.0)

-- what is due stands at some place of the rows
abbrev Stands : ℕ → Rows → ℕ × Text → Type 0
Stands now rows x = (i : ℕ) × (slice_get rows i ≡ Some (x.1, x.0)) × (x.0 ≤ now)

stands : (now : ℕ) (rows : Rows) (x : ℕ × Text) (k : ℕ) → k < length (due_rows now rows) → get_or (due_rows now rows) k x ≡ x → Stands now rows x
stands now [] x k within is = absurd (omega arith)
stands now (r ∷ rows) x k within is = go (nat_le r.1 now) refl k within is (λ j w e. stands now rows x j w e)
  where
    later : Stands now rows x → Stands now (r ∷ rows) x
    later s = (suc s.0, s.1, s.2)

    go : (b : Bool) → nat_le r.1 now ≡ b → (k : ℕ) → k < length (cond b (turned r ∷ due_rows now rows) (due_rows now rows)) → get_or (cond b (turned r ∷ due_rows now rows) (due_rows now rows)) k x ≡ x
        → ((j : ℕ) → j < length (due_rows now rows) → get_or (due_rows now rows) j x ≡ x → Stands now rows x) → Stands now (r ∷ rows) x
    go true due zero w e rest = (0, ap (λ (y : ℕ × Text). Some (y.1, y.0)) e, subst (λ (y : ℕ × Text). y.0 ≤ now) e (low r.1 now due))
    go true due (suc j) w e rest = later (rest j (omega arith) e)
    go false due k w e rest = later (rest k w e)

-- and a row that is due is in the list
listed : (now : ℕ) (rows : Rows) (t : Text) (d : ℕ) → lookup (bytes_eq t) rows ≡ Some d → d ≤ now → Contains (due_rows now rows) (d, t)
listed now [] t d is low = absurd cc
listed now (r ∷ rows) t d is low = go (bytes_eq t r.0) refl is (nat_le r.1 now) refl (λ e. listed now rows t d e low)
  where
    some_is : (a : ℕ) → Some a ≡ Some d → a ≡ d
    some_is a e = cc

    go : (b : Bool) → bytes_eq t r.0 ≡ b → cond b (Some r.1) (lookup (bytes_eq t) rows) ≡ Some d → (c : Bool) → nat_le r.1 now ≡ c
        → (lookup (bytes_eq t) rows ≡ Some d → Contains (due_rows now rows) (d, t)) → Contains (cond c (turned r ∷ due_rows now rows) (due_rows now rows)) (d, t)
    go true here found true due rest = (0, omega arith, λ i. (some_is r.1 found i, sym ((bytes_eq-Decides t r.0).0 here) i))
    go true here found false due rest = let same : r.1 ≡ d = some_is r.1 found in absurd (not_late r.1 due (omega (arith, same)))
      where
        not_late : (a : ℕ) → nat_le a now ≡ false → a ≤ now → ⊥
        not_late a h g = grind (arith, nat_tests)
    go false here found true due rest = let s = rest found in (suc s.0, omega (arith, s.1), s.2)
    go false here found false due rest = rest found

-- the names of what is due are among those of the rows, each once
apart : (now : ℕ) (t : Text) (rows : Rows) → AllByRecursion (λ (u : Text). bytes_eq t u ≡ false) (keys_of rows) → AllByRecursion (λ (u : Text). bytes_eq t u ≡ false) (map (λ (d : ℕ × Text). d.1) (due_rows now rows))
apart now t [] all = tt
apart now t (r ∷ rows) all = go (nat_le r.1 now) (apart now t rows all.1)
  where
    go : (b : Bool) → AllByRecursion (λ (u : Text). bytes_eq t u ≡ false) (map (λ (d : ℕ × Text). d.1) (due_rows now rows))
        → AllByRecursion (λ (u : Text). bytes_eq t u ≡ false) (map (λ (d : ℕ × Text). d.1) (cond b (turned r ∷ due_rows now rows) (due_rows now rows)))
    go true rest = (all.0, rest)
    go false rest = rest

once : (now : ℕ) (rows : Rows) → IsDistinct bytes_eq (keys_of rows) → IsDistinct bytes_eq (map (λ (d : ℕ × Text). d.1) (due_rows now rows))
unfolding IsDistinct
once now [] all = tt
once now (r ∷ rows) all = go (nat_le r.1 now) (apart now r.0 rows all.0) (once now rows all.1)
  where
    go : (b : Bool) → AllByRecursion (λ (u : Text). bytes_eq r.0 u ≡ false) (map (λ (d : ℕ × Text). d.1) (due_rows now rows)) → IsDistinct bytes_eq (map (λ (d : ℕ × Text). d.1) (due_rows now rows))
        → IsDistinct bytes_eq (map (λ (d : ℕ × Text). d.1) (cond b (turned r ∷ due_rows now rows) (due_rows now rows)))
    go true here rest = (here, rest)
    go false here rest = rest

-- so the list is that of the due moments alone
pub is_due_list : (now : ℕ) (dues : Dues) (found : List (ℕ × Text)) → IsDistinct bytes_eq (keys_of dues.rows) → IsPermutation (due_rows now dues.rows) found → IsSorted due_cmp found → IsDueList now dues found
is_due_list now dues found distinct moved sorted = record {
  due = λ t d. (
    (λ in_list.
        let c = Contains-permutation found (due_rows now dues.rows) (d, t) (IsPermutation-sym (due_rows now dues.rows) found moved) in_list in
        let s = stands now dues.rows (d, t) c.0 c.1 c.2 in
        (lookup_from_place nat_list_eq_equiv dues.rows s.0 t d distinct s.1, s.2)),
    (λ is. Contains-permutation (due_rows now dues.rows) found (d, t) moved (listed now dues.rows t d is.0 is.1)),
  );
  once = IsDistinct-IsPermutation bytes_eq bytes_flip (map (λ (d : ℕ × Text). d.1) (due_rows now dues.rows)) (map (λ (d : ℕ × Text). d.1) found)
      (IsPermutation-map (λ (d : ℕ × Text). d.1) (due_rows now dues.rows) found moved) (once now dues.rows distinct);
  sorted = sorted;
}
