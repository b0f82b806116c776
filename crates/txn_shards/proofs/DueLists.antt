-- What is due by the rows of all shards, sorted, is the list of what is due.
use Rattle.std.proofs.Common.{◌≡◌, ℕ, zero, suc, ◌<◌, ◌≤◌, ◌+◌, Bool, true, false, cond, List, [], ◌∷◌, ◌++◌, length, get_or, map, Option, Some, None, refl, sym, ap, subst, ◌∙◌, arith, eqb-true, inl, inr, Ordering, Less, Equal, Greater}
use Rattle.std.specs.Prelude.{◌==◌, ◌&&◌, ◌||◌, nat_lt, Contains, IsPermutation, IsSorted}
use Rattle.std.specs.List.{AllByRecursion, AllPairs, IsDistinct}
use Rattle.std.specs.Option.{option_and_then, option_or}
use Rattle.std.specs.Ordering.{nat_cmp, is_lt, ordering_reverse, ordering_then}
use Rattle.std.specs.Cmp.Lexicographic.{slice_cmp}
use Rattle.std.specs.Str.{bytes_eq}
use Rattle.std.proofs.lemmas.Bool.{both_ways}
use Rattle.std.proofs.lemmas.Bool.Decides.{nat_tests}
use Rattle.std.proofs.lemmas.Cmp.{tied_itself}
use Rattle.std.proofs.lemmas.List.{map-append}
use Rattle.std.proofs.lemmas.List.Elements.{Contains-append_cases, Contains-append_left, Contains-append_right}
use Rattle.std.proofs.lemmas.List.Sorted.{Contains-permutation, IsPermutation-map, IsPermutation-sym}
use Rattle.std.proofs.lemmas.Map.Keys.{IsDistinct-IsPermutation}
use Rattle.std.proofs.lemmas.Map.Made.{IsDistinct-from_AllPairs}
use Rattle.std.proofs.lemmas.Slice.Eq.{bytes_eq-Decides}
use Rattle.upi_base.specs.Lists.{when}
use Rattle.upi_base.specs.Shards.{txn_shard}
use Rattle.upi_base.proofs.Hashes.{shard_after_is}
use Rattle.upi_base.proofs.Options.{some_same}
use Rattle.upi_words.specs.Prelude.{Setup, History, Text, Legal, is_closed}
use Rattle.upi_model.specs.DueLaws.{IsDueBy}
use Rattle.upi_model.specs.DueList.{DueTxn, due_before, due_list}
use Rattle.upi_model.specs.Dues.{due}
use Rattle.upi_model.specs.Places.{has_id}
use Rattle.upi_model.specs.Standing.{due_on, standing, sendings}
use Rattle.upi_model.proofs.DueOrder.{due_list_laws}
use Rattle.upi_model.proofs.Own.{own_standing_is}
use Rattle.upi_laws.proofs.Local.{own_sendings_is}
use Rattle.expiry_clock.specs.Dues.{due_cmp}
use Rattle.txn_row.specs.Rows.{Course, due_in}
use Rattle.txn_shard.specs.Rows.{IsDueOf, due_at, row_at}
use Rattle.txn_shard.specs.Shard.{Stands, IsHere}
use Rattle.txn_shard.proofs.Gathered.{shard_laws}
use Rattle.txn_shards.specs.Txns.{StandTxns, Appends, entries_in}
use Rattle.txn_shards.proofs.Changes.{some_at}
use Rattle.txn_shards.proofs.OneOrder.{due_total, one_order, rises}

-- ---- the order

-- one comes before the other exactly where it is less
before_is : (a b : DueTxn) → due_before a b ≡ is_lt (due_cmp a b)
before_is a b = go (nat_lt a.0 b.0) (a.0 == b.0) (slice_cmp nat_cmp a.1 b.1)
  where
    go : (p q : Bool) (o : Ordering) → (p || (q && is_lt o)) ≡ is_lt (ordering_then (cond p Less (cond q Equal Greater)) o)
    go true q o = refl
    go false true o = refl
    go false false o = refl

less_not_after : (o p : Ordering) → p ≡ ordering_reverse o → is_lt o ≡ true → is_lt p ≡ false
less_not_after Less p e is = ap is_lt e
less_not_after Equal p e is = absurd cc
less_not_after Greater p e is = absurd cc

never_before : (a : DueTxn) → due_before a a ≡ false
never_before a = before_is a a ∙ ap is_lt (tied_itself due_total a)

sorted_of : (xs : List DueTxn) → AllPairs (λ (a : DueTxn) (b : DueTxn). due_before a b ≡ true) xs → IsSorted due_cmp xs
sorted_of xs pairs = λ k d low high.
    let one = pairs k (k + 1) d (omega arith) high in
    less_not_after (due_cmp (get_or xs k d) (get_or xs (k + 1) d)) (due_cmp (get_or xs (k + 1) d) (get_or xs k d)) (due_total.antisymm (get_or xs (k + 1) d) (get_or xs k d)) (sym (before_is (get_or xs k d) (get_or xs (k + 1) d)) ∙ one)

get_map : {X Y : Type 0} (f : X → Y) (xs : List X) (i : ℕ) (d : X) → get_or (map f xs) i (f d) ≡ f (get_or xs i d)
get_map f [] i d = refl
get_map f (x ∷ xs) zero d = refl
get_map f (x ∷ xs) (suc i) d = get_map f xs i d

length_map : {X Y : Type 0} (f : X → Y) (xs : List X) → length (map f xs) ≡ length xs
length_map f [] = refl
length_map f (x ∷ xs) = ap suc (length_map f xs)

all_get : (P : DueTxn → Type 0) (xs : List DueTxn) → AllByRecursion P xs → (i : ℕ) (d : DueTxn) → i < length xs → P (get_or xs i d)
all_get P [] all i d lt = absurd (omega arith)
all_get P (x ∷ xs) all zero d lt = all.0
all_get P (x ∷ xs) all (suc i) d lt = all_get P xs all.1 i d (omega arith)

-- no name stands twice in an ascending list of what is due
once_of : (S : Setup) (h : History) (now : ℕ) (xs : List DueTxn) → AllPairs (λ (a : DueTxn) (b : DueTxn). due_before a b ≡ true) xs → AllByRecursion (IsDueBy S h now) xs → IsDistinct bytes_eq (map (λ (d : DueTxn). d.1) xs)
once_of S h now xs pairs all = IsDistinct-from_AllPairs bytes_eq-Decides (map (λ (d : DueTxn). d.1) xs) (λ i j t low high.
    let len = length_map (λ (d : DueTxn). d.1) xs in
    let j_in : j < length xs = omega (arith, len, high) in
    let i_in : i < length xs = omega (arith, low, j_in) in
    apart (get_or xs i (0, t)) (get_or xs j (0, t)) (pairs i j (0, t) low j_in) (all_get (IsDueBy S h now) xs all i (0, t) i_in) (all_get (IsDueBy S h now) xs all j (0, t) j_in) (get_map (λ (d : DueTxn). d.1) xs i (0, t)) (get_map (λ (d : DueTxn). d.1) xs j (0, t)))
  where
    apart : {u v : Text} (a b : DueTxn) → due_before a b ≡ true → IsDueBy S h now a → IsDueBy S h now b → u ≡ a.1 → v ≡ b.1 → u ≡ v → ⊥
    apart {u} {v} a b before x y is js same =
        let names : a.1 ≡ b.1 = sym is ∙ same ∙ js in
        let moments : a.0 ≡ b.0 = some_same a.0 b.0 (sym x.0 ∙ ap (λ (t : Text). due S t h) names ∙ y.0) in
        both_ways (due_before a a) (never_before a) ((λ i. due_before a (moments i, names i)) ∙ before)

-- ---- one shard

-- a row that a name finds has the name
row_here : (S : Setup) (k : ℕ) (t : Text) (rows : List Course) (c : Course) → AllByRecursion (IsHere S k) rows → row_at rows t ≡ Some c → txn_shard t ≡ k
row_here S k t [] c here is = absurd cc
row_here S k t (r ∷ rs) c here is = go (has_id t r.opening) refl (λ later. row_here S k t rs c here.1 later) is
  where
    go : (b : Bool) → has_id t r.opening ≡ b → (row_at rs t ≡ Some c → txn_shard t ≡ k) → option_or (when b r) (row_at rs t) ≡ Some c → txn_shard t ≡ k
    go true named later e = ap txn_shard (sym ((bytes_eq-Decides r.opening.terms.txn t).0 named)) ∙ here.0.its_shard
    go false named later e = later e

due_here : (S : Setup) (k : ℕ) (t : Text) (rows : List Course) (at : ℕ) → AllByRecursion (IsHere S k) rows → due_at rows t ≡ Some at → txn_shard t ≡ k
due_here S k t rows at here is = go (row_at rows t) refl is
  where
    go : (x : Option Course) → row_at rows t ≡ x → option_and_then due_in x ≡ Some at → txn_shard t ≡ k
    go None found e = absurd cc
    go (Some c) found e = row_here S k t rows c here found

module _ (S : Setup) (h : History) (now : ℕ) (legal : Legal S h) (run : is_closed h ≡ false) where
  due_is : (t : Text) (rows : List Course) → Stands S (txn_shard t) (entries_in h (txn_shard t)) rows → due_at rows t ≡ due S t h
  due_is t rows stands =
      shard_laws.dues S (txn_shard t) (entries_in h (txn_shard t)) rows t stands
      ∙ (λ i. due_on false (own_standing_is S t h run i) (own_sendings_is S t h legal run i))
      ∙ (λ i. due_on (sym run i) (standing S t h) (sendings t h))

-- ---- all shards

-- what is due and belongs to one of the first n shards
record IsDueBelow (S : Setup) (h : History) (now n : ℕ) (d : DueTxn) : Type 0 where
  pub below : txn_shard d.1 < n
  pub due_then : due S d.1 h ≡ Some d.0
  pub by_now : d.0 ≤ now

-- the lists of the first n shards, one after the other
abbrev pub Collected : ℕ → List (List Course) → ℕ → List DueTxn → Type 0
Collected now rss zero all = all ≡ []
Collected now rss (suc n) all = (front : List DueTxn) × (Collected now rss n front × Appends now rss n front all)

-- a list has what is due of the first n shards, each once
record HasDue (S : Setup) (h : History) (now n : ℕ) (all : List DueTxn) : Type 0 where
  pub sound : (d : DueTxn) → Contains all d → IsDueBelow S h now n d
  pub whole : (d : DueTxn) → IsDueBelow S h now n d → Contains all d
  pub once : IsDistinct bytes_eq (map (λ (d : DueTxn). d.1) all)

all_append : {X : Type 0} (P : X → Type 0) (xs ys : List X) → AllByRecursion P xs → AllByRecursion P ys → AllByRecursion P (xs ++ ys)
all_append P [] ys a b = b
all_append P (x ∷ xs) ys a b = (a.0, all_append P xs ys a.1 b)

distinct_append : (xs ys : List Text) → IsDistinct bytes_eq xs → IsDistinct bytes_eq ys → AllByRecursion (λ (x : Text). AllByRecursion (λ (y : Text). bytes_eq x y ≡ false) ys) xs → IsDistinct bytes_eq (xs ++ ys)
unfolding IsDistinct
distinct_append [] ys a b cross = b
distinct_append (x ∷ xs) ys a b cross = (all_append (λ (y : Text). bytes_eq x y ≡ false) xs ys a.0 cross.0, distinct_append xs ys a.1 b cross.1)

all_names : (P : Text → Type 0) (xs : List DueTxn) → ((d : DueTxn) → Contains xs d → P d.1) → AllByRecursion P (map (λ (d : DueTxn). d.1) xs)
all_names P [] each = tt
all_names P (x ∷ xs) each = (each x (0, omega arith, refl), all_names P xs (λ d c. each d (suc c.0, omega (arith, c.1), c.2)))

none_in : (S : Setup) (h : History) (now : ℕ) (all : List DueTxn) → all ≡ [] → HasDue S h now 0 all
unfolding IsDistinct
none_in S h now [] is = record {
  sound = λ d c. let lt = c.1 in absurd (omega (arith, lt));
  whole = λ d k. let lt = k.below in absurd (omega (arith, lt));
  once = tt;
}
none_in S h now (x ∷ xs) is = absurd cc

module _ (S : Setup) (h : History) (now : ℕ) (legal : Legal S h) (run : is_closed h ≡ false) (rss : List (List Course)) (stand : StandTxns S (entries_in h) rss) where
  one_more : (n : ℕ) (front found : List DueTxn) (rows : List Course) → Stands S n (entries_in h n) rows → IsDueOf now rows found → HasDue S h now n front → HasDue S h now (suc n) (front ++ found)
  one_more n front found rows stands one before = record { sound = sound; whole = whole; once = once }
    where
      here : (d : DueTxn) → Contains found d → txn_shard d.1 ≡ n
      here d has = due_here S n d.1 rows d.0 stands.here ((one.due d.1 d.0).0 has).0

      due_of : (t : Text) → txn_shard t ≡ n → due_at rows t ≡ due S t h
      due_of t k = due_is S h now legal run t rows (subst (λ (m : ℕ). Stands S m (entries_in h m) rows) (sym k) stands)

      sound : (d : DueTxn) → Contains (front ++ found) d → IsDueBelow S h now (suc n) d
      sound d has = elim (Contains-append_cases front found d has) [
        | inl x ↦ let b = before.sound d x in let lt = b.below in record { below = omega (arith, lt); due_then = b.due_then; by_now = b.by_now }
        | inr y ↦
            let k = here d y in
            let at = (one.due d.1 d.0).0 y in
            record { below = omega (arith, k); due_then = sym (due_of d.1 k) ∙ at.0; by_now = at.1 }
      ]

      whole : (d : DueTxn) → IsDueBelow S h now (suc n) d → Contains (front ++ found) d
      whole d k = go (txn_shard d.1 == n) refl
        where
          below : (i n : ℕ) → i < suc n → (i == n) ≡ false → i < n
          below i n lt other = grind (arith, nat_tests, lt, other)

          go : (b : Bool) → (txn_shard d.1 == n) ≡ b → Contains (front ++ found) d
          go true is = Contains-append_right front found d ((one.due d.1 d.0).1 (due_of d.1 (eqb-true (txn_shard d.1) n is) ∙ k.due_then, k.by_now))
          go false is = Contains-append_left front found d (before.whole d (record { below = below (txn_shard d.1) n k.below is; due_then = k.due_then; by_now = k.by_now }))

      differ : (t u : Text) → txn_shard t < n → txn_shard u ≡ n → (b : Bool) → bytes_eq t u ≡ b → b ≡ false
      differ t u low at true is = let same = ap txn_shard ((bytes_eq-Decides t u).0 is) in absurd (omega (arith, low, at, same))
      differ t u low at false is = refl

      once : IsDistinct bytes_eq (map (λ (d : DueTxn). d.1) (front ++ found))
      once =
          subst (IsDistinct bytes_eq) (sym (map-append (λ (d : DueTxn). d.1) front found))
          (distinct_append (map (λ (d : DueTxn). d.1) front) (map (λ (d : DueTxn). d.1) found) before.once one.once
          (all_names (λ (x : Text). AllByRecursion (λ (y : Text). bytes_eq x y ≡ false) (map (λ (d : DueTxn). d.1) found)) front
          (λ d has. all_names (λ (y : Text). bytes_eq d.1 y ≡ false) found (λ e there. differ d.1 e.1 (before.sound d has).below (here e there) (bytes_eq d.1 e.1) refl))))

  collected : (n : ℕ) → n ≤ 16 → (all : List DueTxn) → Collected now rss n all → HasDue S h now n all
  collected zero le all c = none_in S h now all c
  collected (suc n) le all c =
      let sixteen = stand.sixteen in
      let rows = some_at rss n (omega (arith, sixteen, le)) in
      subst (HasDue S h now (suc n)) (sym c.1.1.is)
      (one_more n c.0 c.1.1.found rows.0 (stand.each n rows.0 rows.1) (c.1.1.due rows.0 rows.1) (collected n (omega (arith, le)) c.0 c.1.0))

  pub sorted_is : (all found : List DueTxn) → Collected now rss 16 all → IsPermutation all found → IsSorted due_cmp found → found ≡ due_list S h now
  sorted_is all found c moved sorted =
      one_order found (due_list S h now) to from (rises found sorted) (rises (due_list S h now) (sorted_of (due_list S h now) (due_list_laws.ascends S h now))) once_found
      (once_of S h now (due_list S h now) (due_list_laws.ascends S h now) (due_list_laws.all_due S h now))
    where
      has : HasDue S h now 16 all
      has = collected 16 (omega arith) all c

      to : (z : DueTxn) → Contains found z → Contains (due_list S h now) z
      to z there = let k = has.sound z (Contains-permutation found all z (IsPermutation-sym all found moved) there) in due_list_laws.holds_all S h now z.1 z.0 k.due_then k.by_now

      from : (z : DueTxn) → Contains (due_list S h now) z → Contains found z
      from z there =
          let at : IsDueBy S h now z = subst (IsDueBy S h now) there.2 (all_get (IsDueBy S h now) (due_list S h now) (due_list_laws.all_due S h now) there.0 z there.1) in
          Contains-permutation all found z moved (has.whole z (record { below = subst (λ (n : ℕ). n < 16) (sym (shard_after_is 0 z.1)) (omega arith); due_then = at.0; by_now = at.1 }))

      flip : (a b : Text) → bytes_eq a b ≡ bytes_eq b a
      flip a b = go (bytes_eq a b) (bytes_eq b a) refl refl
        where
          go : (x y : Bool) → bytes_eq a b ≡ x → bytes_eq b a ≡ y → x ≡ y
          go true true e f = refl
          go false false e f = refl
          go true false e f = absurd (both_ways (bytes_eq b a) f ((bytes_eq-Decides b a).1 (sym ((bytes_eq-Decides a b).0 e))))
          go false true e f = absurd (both_ways (bytes_eq a b) e ((bytes_eq-Decides a b).1 (sym ((bytes_eq-Decides b a).0 f))))

      once_found : IsDistinct bytes_eq (map (λ (d : DueTxn). d.1) found)
      once_found = IsDistinct-IsPermutation bytes_eq flip (map (λ (d : DueTxn). d.1) all) (map (λ (d : DueTxn). d.1) found) (IsPermutation-map (λ (d : DueTxn). d.1) all found moved) has.once

-- one shard's list more
pub collected_more : (now : ℕ) (rss : List (List Course)) (n : ℕ) (front all : List DueTxn) → Collected now rss n front → Appends now rss n front all → Collected now rss (n + 1) all
collected_more now rss n front all before more = let e : suc n ≡ n + 1 = omega arith in subst (λ (k : ℕ). Collected now rss k all) e (front, (before, more))
