-- Two lists with the same elements, none of whose names stands twice, are one where both are sorted: as in expiry_clock, whose lemma isn't public.
use Rattle.std.proofs.Common.{◌≡◌, ◌≢◌, ℕ, zero, suc, ◌<◌, ◌≤◌, List, [], ◌∷◌, length, map, get_or, refl, sym, ap, ◌∙◌, arith}
use Rattle.std.specs.Prelude.{false, Contains, IsSorted}
use Rattle.std.specs.List.{IsDistinct, AllByRecursion}
use Rattle.std.specs.Ordering.{nat_cmp, ordering_reverse, ordering_index}
use Rattle.std.specs.declared.cmp.Ordering.{Ordering}
use Rattle.std.specs.declared.cmp.Ordering.TheVariants as ordering
use Rattle.std.specs.Cmp.{IsTotalOrder}
use Rattle.std.specs.Cmp.Lexicographic.{slice_cmp}
use Rattle.std.specs.Str.{bytes_eq}
use Rattle.std.proofs.lemmas.Bool.{both_ways}
use Rattle.std.proofs.lemmas.Cmp.{nat_cmp_total, nat_list_cmp_total, on_total, then_total, tied_itself}
use Rattle.std.proofs.lemmas.List.Sorted.{searchable_from_sorted}
use Rattle.std.proofs.lemmas.Map.Lookups.{exact_unsigned, exact_bytes, exact_pairs}
use Rattle.std.proofs.lemmas.Slice.Eq.{bytes_eq-Decides}
use Rattle.upi_base.specs.Names.{Text}
use Rattle.expiry_clock.specs.Dues.{due_cmp}

-- a due moment, with its transaction
abbrev pub Due : Type 0
Due = ℕ × Text

pub due_total : IsTotalOrder due_cmp
due_total = then_total (on_total (λ (d : Due). d.0) nat_cmp_total) (on_total (λ (d : Due). d.1) nat_list_cmp_total)

due_exact : (x y : Due) → due_cmp x y ≡ ordering.Equal → x ≡ y
due_exact x y e = exact_pairs nat_cmp (slice_cmp nat_cmp) exact_unsigned exact_bytes x y e

-- none is before an earlier one of the list
abbrev pub Rises : List Due → Type 0
Rises xs = (x : Due) (i j : ℕ) (d : Due) → i ≤ j → j < length xs → ordering_index (due_cmp (get_or xs i d) x) ≤ ordering_index (due_cmp (get_or xs j d) x)

pub rises : (xs : List Due) → IsSorted due_cmp xs → Rises xs
rises xs sorted = λ x. searchable_from_sorted due_total (λ (y : Due). y) xs x sorted

-- no transaction is in the list twice
abbrev pub Once : List Due → Type 0
Once xs = IsDistinct bytes_eq (map (λ (d : Due). d.1) xs)

first : (x : Due) (xs : List Due) → Contains (x ∷ xs) x
first x xs = (0, omega arith, refl)

-- what the list has isn't before its first
no_earlier : (x z : Due) (xs : List Due) → Rises (x ∷ xs) → Contains (x ∷ xs) z → 1 ≤ ordering_index (due_cmp z x)
no_earlier x z xs up there =
    let low : 0 ≤ there.0 = omega arith in
    let same : ordering_index (due_cmp x x) ≡ 1 = ap ordering_index (tied_itself due_total x) in
    let here : ordering_index (due_cmp (get_or (x ∷ xs) there.0 z) x) ≡ ordering_index (due_cmp z x) = ap (λ (w : Due). ordering_index (due_cmp w x)) there.2 in
    let rise : ordering_index (due_cmp x x) ≤ ordering_index (due_cmp (get_or (x ∷ xs) there.0 z) x) = up x 0 there.0 z low there.1 in
    omega (arith, same, here, rise)

neither : (o p : Ordering) → o ≡ ordering_reverse p → 1 ≤ ordering_index o → 1 ≤ ordering_index p → o ≡ ordering.Equal
neither ordering.Less p e a b = absurd (omega arith)
neither ordering.Equal p e a b = refl
neither ordering.Greater ordering.Less e a b = absurd (omega arith)
neither ordering.Greater ordering.Equal e a b = absurd cc
neither ordering.Greater ordering.Greater e a b = absurd cc

-- a list with another transaction before it doesn't have this one
apart : (x z : Due) (xs : List Due) (k : ℕ) → AllByRecursion (λ (u : Text). bytes_eq x.1 u ≡ false) (map (λ (d : Due). d.1) xs) → k < length xs → get_or xs k z ≡ z → bytes_eq x.1 z.1 ≡ false
apart x z [] k all low is = absurd (omega arith)
apart x z (w ∷ xs) zero all low is = ap (λ (v : Due). bytes_eq x.1 v.1) (sym is) ∙ all.0
apart x z (w ∷ xs) (suc k) all low is = apart x z xs k all.1 (omega arith) is

behind : (y z : Due) (ys : List Due) (k : ℕ) → y ≢ z → k < length (y ∷ ys) → get_or (y ∷ ys) k z ≡ z → Contains ys z
behind y z ys zero other low is = absurd (other is)
behind y z ys (suc k) other low is = (k, omega arith, is)

-- what the rest of a list has, the rest of another has that begins as it does
rest : (x y : Due) (xs ys : List Due) → x ≡ y → Once (x ∷ xs) → ((z : Due) → Contains (x ∷ xs) z → Contains (y ∷ ys) z) → (z : Due) → Contains xs z → Contains ys z
unfolding IsDistinct
rest x y xs ys same once to z there =
    let found = to z (suc there.0, omega (arith, there.1), there.2) in
    let other : y ≢ z = λ e. both_ways (bytes_eq x.1 z.1) (apart x z xs there.0 once.0 there.1 there.2) ((bytes_eq-Decides x.1 z.1).1 (ap (λ (d : Due). d.1) (same ∙ e))) in
    behind y z ys found.0 other found.1 found.2

pub one_order : (xs ys : List Due) → ((z : Due) → Contains xs z → Contains ys z) → ((z : Due) → Contains ys z → Contains xs z) → Rises xs → Rises ys → Once xs → Once ys → xs ≡ ys
unfolding IsDistinct
one_order [] [] to from up over once twice = refl
one_order [] (y ∷ ys) to from up over once twice = let there = from y (first y ys) in absurd (omega (arith, there.1))
one_order (x ∷ xs) [] to from up over once twice = let there = to x (first x xs) in absurd (omega (arith, there.1))
one_order (x ∷ xs) (y ∷ ys) to from up over once twice =
    let same : x ≡ y = due_exact x y (neither (due_cmp x y) (due_cmp y x) (due_total.antisymm x y) (no_earlier y x ys over (to x (first x xs))) (no_earlier x y xs up (from y (first y ys)))) in
    ap (λ (l : List Due). x ∷ l)
    (one_order xs ys (rest x y xs ys same once to) (rest y x ys xs (sym same) twice from) (λ w i j d low within. up w (suc i) (suc j) d (omega arith) (omega arith))
    (λ w i j d low within. over w (suc i) (suc j) d (omega arith) (omega arith)) once.1 twice.1)
    ∙ ap (λ (w : Due). w ∷ ys) same
