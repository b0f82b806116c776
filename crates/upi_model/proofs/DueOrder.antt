-- The list of the transactions that are due: its order, and what stands in it.
use Rattle.std.proofs.Common.{◌≡◌, ℕ, zero, suc, ◌<◌, ◌≤◌, Bool, true, false, cond, List, [], ◌∷◌, ◌++◌, Option, Some, None, refl, sym, ◌∙◌, ap, subst, inl, inr, ◌⊎◌, eqb-true, arith, Ordering, Less, Equal, Greater}
use Rattle.std.specs.Prelude.{◌==◌, nat_lt, nat_le, ◌&&◌, ◌||◌}
use Rattle.std.specs.Option.{option_or, option_and_then}
use Rattle.std.specs.Ordering.{nat_cmp, is_lt, is_eq, ordering_reverse}
use Rattle.std.specs.Cmp.Lexicographic.{slice_cmp}
use Rattle.std.specs.List.{AllByRecursion, AllPairs, Contains, count_by}
use Rattle.std.specs.Str.{bytes_eq}
use Rattle.std.proofs.lemmas.Bool.{and_parts, and_from, or_right, or_cases as either_true, ltb-true, lt-ltb, leb-true, both_ways}
use Rattle.std.proofs.lemmas.Bool.Decides.{nat_tests}
use Rattle.std.proofs.lemmas.Cmp.{nat_list_cmp_total}
use Rattle.std.proofs.lemmas.Map.Text.{is_eq-slice_cmp}
use Rattle.std.proofs.lemmas.List.Kept.{AllPairs-cons}
use Rattle.std.proofs.lemmas.List.Elements.{All-from_recursion}
use Rattle.std.proofs.lemmas.Option.{option_and_then_some}
use Rattle.std.proofs.lemmas.Slice.Eq.{bytes_eq-Decides}
use Rattle.upi_base.specs.Lists.{when, pick, joined}
use Rattle.upi_model.specs.Types.{Leg, Outcome, Opening, Decision, LegEnd, Code, Setup, History, Text}
use Rattle.upi_model.specs.History.{sent, is_closed, event_of}
use Rattle.upi_model.specs.Places.{has_id, if_of, opens, opened, opening, decision, debit, credit, cause_by}
use Rattle.upi_model.specs.Outcomes.{outcome_of}
use Rattle.upi_model.specs.Dues.{orders, confirms, last_sent, acknowledged, due_confirm, due_by, due}
use Rattle.upi_model.specs.DueList.{DueTxn, text_before, due_before, inserted, insert_due, due_of, due_among, due_list}
use Rattle.upi_model.specs.Structure.{AreApart}
use Rattle.upi_model.specs.DueLaws.{IsDueBy, DueListLaws}
use Rattle.upi_base.proofs.Options.{some_same, guarded, when_true}
use Rattle.upi_model.proofs.Openings.{opening_is_named, opens_found}

-- ---- one comes before another

less_is : (o : Ordering) → is_lt o ≡ true → o ≡ Less
less_is Less e = refl
less_is Equal e = absurd cc
less_is Greater e = absurd cc

text_after : (a b : Text) → bytes_eq a b ≡ false → text_before a b ≡ false → text_before b a ≡ true
text_after a b differ no_less = ap is_lt (nat_list_cmp_total.antisymm b a) ∙ go (slice_cmp nat_cmp a b) no_less (is_eq-slice_cmp a b ∙ differ)
  where
    go : (o : Ordering) → is_lt o ≡ false → is_eq o ≡ false → is_lt (ordering_reverse o) ≡ true
    go Less e f = absurd cc
    go Equal e f = absurd cc
    go Greater e f = refl

text_trans : (a b c : Text) → text_before a b ≡ true → text_before b c ≡ true → text_before a c ≡ true
text_trans a b c e f = ap is_lt (nat_list_cmp_total.trans a b c (less_is (slice_cmp nat_cmp a b) e) (less_is (slice_cmp nat_cmp b c) f))

or_left : (b c : Bool) → b ≡ true → (b || c) ≡ true
or_left b c e = rw e refl

neither : (b c : Bool) → (b || c) ≡ false → (b ≡ false) × (c ≡ false)
neither true c e = absurd cc
neither false c e = (refl, e)

same_number : (i j : ℕ) → i ≡ j → (i == j) ≡ true
same_number i j e = grind (arith, nat_tests)

-- two with names of their own are ordered one way or the other
due_after : (a b : DueTxn) → bytes_eq a.1 b.1 ≡ false → due_before a b ≡ false → due_before b a ≡ true
due_after a b differ no_less = go (nat_lt b.0 a.0) refl
  where
    parts : (nat_lt a.0 b.0 ≡ false) × (((a.0 == b.0) && text_before a.1 b.1) ≡ false)
    parts = neither (nat_lt a.0 b.0) ((a.0 == b.0) && text_before a.1 b.1) no_less

    same : nat_lt b.0 a.0 ≡ false → a.0 ≡ b.0
    same e = let f = parts.0 in grind (arith, nat_tests)

    text_less : (x : Bool) → x ≡ true → (y : Bool) → (x && y) ≡ false → y ≡ false
    text_less true e y f = f
    text_less false e y f = absurd cc

    go : (x : Bool) → nat_lt b.0 a.0 ≡ x → due_before b a ≡ true
    go true e = or_left (nat_lt b.0 a.0) ((b.0 == a.0) && text_before b.1 a.1) e
    go false e =
        let k = same e in
        or_right (nat_lt b.0 a.0) ((b.0 == a.0) && text_before b.1 a.1)
        (and_from (b.0 == a.0) (text_before b.1 a.1) (same_number b.0 a.0 (sym k)) (text_after a.1 b.1 differ (text_less (a.0 == b.0) (same_number a.0 b.0 k) (text_before a.1 b.1) parts.1)))

due_trans : (a b c : DueTxn) → due_before a b ≡ true → due_before b c ≡ true → due_before a c ≡ true
due_trans a b c e f = elim (either_true (nat_lt a.0 b.0) ((a.0 == b.0) && text_before a.1 b.1) e) [
  | inl less ↦ elim (either_true (nat_lt b.0 c.0) ((b.0 == c.0) && text_before b.1 c.1) f) [
    | inl later ↦ let x = ltb-true a.0 b.0 less in let y = ltb-true b.0 c.0 later in earlier (omega (arith, x, y))
    | inr level ↦ let x = ltb-true a.0 b.0 less in let y = eqb-true b.0 c.0 (and_parts (b.0 == c.0) (text_before b.1 c.1) level).0 in earlier (omega (arith, x, y))
  ]
  | inr same ↦
      let p = and_parts (a.0 == b.0) (text_before a.1 b.1) same in
      let x = eqb-true a.0 b.0 p.0 in
      elim (either_true (nat_lt b.0 c.0) ((b.0 == c.0) && text_before b.1 c.1) f) [
        | inl later ↦ let y = ltb-true b.0 c.0 later in earlier (omega (arith, x, y))
        | inr level ↦
            let q = and_parts (b.0 == c.0) (text_before b.1 c.1) level in
            let y = eqb-true b.0 c.0 q.0 in
            or_right (nat_lt a.0 c.0) ((a.0 == c.0) && text_before a.1 c.1) (and_from (a.0 == c.0) (text_before a.1 c.1) (same_number a.0 c.0 (x ∙ y)) (text_trans a.1 b.1 c.1 p.1 q.1))
      ]
]
  where
    earlier : a.0 < c.0 → due_before a c ≡ true
    earlier l = or_left (nat_lt a.0 c.0) ((a.0 == c.0) && text_before a.1 c.1) (lt-ltb a.0 c.0 l)

-- ---- one more in the list

all_inserted : (P : DueTxn → Type 0) (d : DueTxn) (xs : List DueTxn) → P d → AllByRecursion P xs → AllByRecursion P (inserted d xs)
all_inserted P d [] p k = (p, tt)
all_inserted P d (x ∷ xs) p k = go (due_before x d) (all_inserted P d xs p k.1)
  where
    go : (b : Bool) → AllByRecursion P (inserted d xs) → AllByRecursion P (cond b (x ∷ inserted d xs) (d ∷ x ∷ xs))
    go true rest = (k.0, rest)
    go false rest = (p, (k.0, k.1))

-- each comes before all later ones
abbrev Ascends : List DueTxn → Type 0
Ascends [] = Unit {0}
Ascends (x ∷ xs) = AllByRecursion (λ (y : DueTxn). due_before x y ≡ true) xs × Ascends xs

all_later : (d x : DueTxn) (xs : List DueTxn) → due_before d x ≡ true → AllByRecursion (λ (y : DueTxn). due_before x y ≡ true) xs → AllByRecursion (λ (y : DueTxn). due_before d y ≡ true) xs
all_later d x [] e k = tt
all_later d x (y ∷ ys) e k = (due_trans d x y e k.0, all_later d x ys e k.1)

ascends_inserted : (d : DueTxn) (xs : List DueTxn) → AllByRecursion (λ (x : DueTxn). bytes_eq x.1 d.1 ≡ false) xs → Ascends xs → Ascends (inserted d xs)
ascends_inserted d [] apart k = (tt, tt)
ascends_inserted d (x ∷ xs) apart k = go (due_before x d) refl (ascends_inserted d xs apart.1 k.1)
  where
    go : (b : Bool) → due_before x d ≡ b → Ascends (inserted d xs) → Ascends (cond b (x ∷ inserted d xs) (d ∷ x ∷ xs))
    go true e rest = (all_inserted (λ (y : DueTxn). due_before x y ≡ true) d xs e k.0, rest)
    go false e rest = let l = due_after x d apart.0 e in ((l, all_later d x xs l k.0), (k.0, k.1))

-- one of the list
abbrev IsIn : List DueTxn → DueTxn → Type 0
IsIn [] d = ⊥
IsIn (x ∷ xs) d = (x ≡ d) ⊎ IsIn xs d

new_is_in : (d : DueTxn) (xs : List DueTxn) → IsIn (inserted d xs) d
new_is_in d [] = inl refl
new_is_in d (x ∷ xs) = go (due_before x d) (new_is_in d xs)
  where
    go : (b : Bool) → IsIn (inserted d xs) d → IsIn (cond b (x ∷ inserted d xs) (d ∷ x ∷ xs)) d
    go true rest = inr rest
    go false rest = inl refl

old_is_in : (n d : DueTxn) (xs : List DueTxn) → IsIn xs d → IsIn (inserted n xs) d
old_is_in n d [] k = absurd k
old_is_in n d (x ∷ xs) k = go (due_before x n) k (λ later. old_is_in n d xs later)
  where
    go : (b : Bool) → (x ≡ d) ⊎ IsIn xs d → (IsIn xs d → IsIn (inserted n xs) d) → IsIn (cond b (x ∷ inserted n xs) (n ∷ x ∷ xs)) d
    go true (inl here) rest = inl here
    go true (inr later) rest = inr (rest later)
    go false k rest = inr k

-- ---- names

none_has : (t : Text) (xs : List Opening) → pick (if_of t) xs ≡ None → AllByRecursion (λ (x : Opening). has_id t x ≡ false) xs
none_has t [] e = tt
none_has t (x ∷ xs) e = go (has_id t x) refl e (none_has t xs)
  where
    go : (b : Bool) → has_id t x ≡ b → option_or (when b x) (pick (if_of t) xs) ≡ None → (pick (if_of t) xs ≡ None → AllByRecursion (λ (y : Opening). has_id t y ≡ false) xs) → AllByRecursion (λ (y : Opening). has_id t y ≡ false) (x ∷ xs)
    go true is k rest = absurd cc
    go false is k rest = (is, rest k)

all_push : (P : Opening → Type 0) (xs : List Opening) (q : Opening) → AllByRecursion P xs → P q → AllByRecursion P (xs ++ q ∷ [])
all_push P [] q k p = (p, tt)
all_push P (x ∷ xs) q k p = (k.0, all_push P xs q k.1 p)

apart_push : (xs : List Opening) (q : Opening) → AreApart xs → AllByRecursion (λ (x : Opening). has_id q.terms.txn x ≡ false) xs → AreApart (xs ++ q ∷ [])
apart_push [] q k fresh = (tt, tt)
apart_push (x ∷ xs) q k fresh = (all_push (λ (y : Opening). has_id y.terms.txn x ≡ false) xs q k.0 fresh.0, apart_push xs q k.1 fresh.1)

-- no two openings have one name
pub openings_are_apart : (S : Setup) (h : History) → AreApart (opened S h)
openings_are_apart S [] = tt
openings_are_apart S (e ∷ h) = go (opens S (opened S h) (is_closed h) (event_of h e.call) e.at) refl (openings_are_apart S h)
  where
    go : (o : Option Opening) → opens S (opened S h) (is_closed h) (event_of h e.call) e.at ≡ o → AreApart (opened S h) → AreApart (joined (opened S h) o)
    go None is k = k
    go (Some q) is k = apart_push (opened S h) q k (none_has q.terms.txn (opened S h) (opens_found S e h q is).0)

-- ---- the list

module _ (S : Setup) (h : History) (now : ℕ) where
  -- an opening's place in the list, where it is due
  record IsDueOf (o : Opening) (d : DueTxn) : Type 0 where
    its_name : o.terms.txn ≡ d.1
    its_moment : due S o.terms.txn h ≡ Some d.0
    has_come : d.0 ≤ now

  due_of_is : (o : Opening) (d : DueTxn) → due_of S h now o ≡ Some d → IsDueOf o d
  due_of_is o d e = option_and_then_some (λ (k : ℕ). when (nat_le k now) (k, o.terms.txn)) (due S o.terms.txn h) d e (λ k is w.
      let c = when_true (nat_le k now) (k, o.terms.txn) d w in
      record { its_name = ap (λ (x : DueTxn). x.1) c.1; its_moment = is ∙ ap (λ (x : DueTxn). Some x.0) c.1; has_come = subst (λ (n : ℕ). n ≤ now) (ap (λ (x : DueTxn). x.0) c.1) (leb-true k now c.0) })

  -- what holds of all names holds of those in the list
  all_names : (P : Text → Type 0) (os : List Opening) → AllByRecursion (λ (o : Opening). P o.terms.txn) os → AllByRecursion (λ (d : DueTxn). P d.1) (due_among S h now os)
  all_names P [] k = tt
  all_names P (o ∷ os) k = go (due_of S h now o) refl (all_names P os k.1)
    where
      go : (x : Option DueTxn) → due_of S h now o ≡ x → AllByRecursion (λ (d : DueTxn). P d.1) (due_among S h now os) → AllByRecursion (λ (d : DueTxn). P d.1) (insert_due x (due_among S h now os))
      go None is rest = rest
      go (Some d) is rest = all_inserted (λ (d : DueTxn). P d.1) d (due_among S h now os) (subst P (due_of_is o d is).its_name k.0) rest

  among_ascends : (os : List Opening) → AreApart os → Ascends (due_among S h now os)
  among_ascends [] k = tt
  among_ascends (o ∷ os) k = go (due_of S h now o) refl (among_ascends os k.1)
    where
      swap : (a b : Text) → bytes_eq a b ≡ false → bytes_eq b a ≡ false
      swap a b e = turned (bytes_eq b a) refl
        where
          turned : (x : Bool) → bytes_eq b a ≡ x → x ≡ false
          turned false f = refl
          turned true f = absurd (both_ways (bytes_eq a b) e ((bytes_eq-Decides a b).1 (sym ((bytes_eq-Decides b a).0 f))))

      differ : (os : List Opening) → AllByRecursion (λ (q : Opening). has_id q.terms.txn o ≡ false) os → AllByRecursion (λ (q : Opening). bytes_eq q.terms.txn o.terms.txn ≡ false) os
      differ [] k = tt
      differ (q ∷ qs) k = (swap o.terms.txn q.terms.txn k.0, differ qs k.1)

      go : (x : Option DueTxn) → due_of S h now o ≡ x → Ascends (due_among S h now os) → Ascends (insert_due x (due_among S h now os))
      go None is rest = rest
      go (Some d) is rest =
          ascends_inserted d (due_among S h now os)
          (subst (λ (t : Text). AllByRecursion (λ (x : DueTxn). bytes_eq x.1 t ≡ false) (due_among S h now os)) (due_of_is o d is).its_name (all_names (λ (t : Text). bytes_eq t o.terms.txn ≡ false) os (differ os k.0))) rest

  among_due : (os : List Opening) → AllByRecursion (IsDueBy S h now) (due_among S h now os)
  among_due [] = tt
  among_due (o ∷ os) = go (due_of S h now o) refl (among_due os)
    where
      go : (x : Option DueTxn) → due_of S h now o ≡ x → AllByRecursion (IsDueBy S h now) (due_among S h now os) → AllByRecursion (IsDueBy S h now) (insert_due x (due_among S h now os))
      go None is rest = rest
      go (Some d) is rest = let k = due_of_is o d is in all_inserted (IsDueBy S h now) d (due_among S h now os) (ap (λ (t : Text). due S t h) (sym k.its_name) ∙ k.its_moment, k.has_come) rest

  among_holds : (t : Text) (d : DueTxn) (os : List Opening) (o : Opening) → pick (if_of t) os ≡ Some o → due_of S h now o ≡ Some d → IsIn (due_among S h now os) d
  among_holds t d [] o e is = absurd cc
  among_holds t d (x ∷ os) o e is = go (has_id t x) e (λ later. among_holds t d os o later is)
    where
      more : (n : Option DueTxn) → IsIn (due_among S h now os) d → IsIn (insert_due n (due_among S h now os)) d
      more None k = k
      more (Some n) k = old_is_in n d (due_among S h now os) k

      here : (n : Option DueTxn) → n ≡ Some d → IsIn (insert_due n (due_among S h now os)) d
      here n e = subst (λ (n : Option DueTxn). IsIn (insert_due n (due_among S h now os)) d) (sym e) (new_is_in d (due_among S h now os))

      go : (b : Bool) → option_or (when b x) (pick (if_of t) os) ≡ Some o → (pick (if_of t) os ≡ Some o → IsIn (due_among S h now os) d) → IsIn (insert_due (due_of S h now x) (due_among S h now os)) d
      go true k rest = here (due_of S h now x) (ap (due_of S h now) (some_same x o k) ∙ is)
      go false k rest = more (due_of S h now x) (rest k)

-- ---- in the words of lists

pairs_ascend : (xs : List DueTxn) → Ascends xs → AllPairs (λ (a : DueTxn) (b : DueTxn). due_before a b ≡ true) xs
pairs_ascend [] k = λ i j d below within. absurd (omega (arith, within))
pairs_ascend (x ∷ xs) k = AllPairs-cons (λ (a : DueTxn) (b : DueTxn). due_before a b ≡ true) x xs (All-from_recursion (λ (b : DueTxn). due_before x b ≡ true) xs k.0) (pairs_ascend xs k.1)

is_contained : (xs : List DueTxn) (d : DueTxn) → IsIn xs d → Contains xs d
is_contained [] d k = absurd k
is_contained (x ∷ xs) d (inl here) = (zero, omega arith, here)
is_contained (x ∷ xs) d (inr later) = let k = is_contained xs d later in (suc k.0, omega (arith, k.1), k.2)

-- what is due was opened
due_opened : (S : Setup) (t : Text) (h : History) (k : ℕ) → due S t h ≡ Some k → (o : Opening) × (opening S t h ≡ Some o)
due_opened S t h k e =
    began (opening S t h) (outcome_of S t h) (decision S t h) (debit S t h) (cause_by (debit S t h) (credit S t h)) (last_sent (orders t Leg.Reversal) h) (due_confirm (count_by (confirms t) (sent h)) (last_sent (confirms t) h) (acknowledged S t h))
    (guarded (is_closed h) _ k e).1
  where
    began : (o : Option Opening) (x : Option Outcome) (a : Option Decision) (d : Option LegEnd) (why : Option Code) (returned confirmed : Option ℕ) → due_by o x a d why returned confirmed ≡ Some k → (q : Opening) × (o ≡ Some q)
    began None x a d why returned confirmed w = absurd cc
    began (Some o) x a d why returned confirmed w = (o, refl)

due_of_here : (S : Setup) (h : History) (now : ℕ) (o : Opening) (k : ℕ) → due S o.terms.txn h ≡ Some k → k ≤ now → due_of S h now o ≡ Some (k, o.terms.txn)
due_of_here S h now o k e le = ap (option_and_then (λ (k : ℕ). when {X = DueTxn} (nat_le k now) (k, o.terms.txn))) e ∙ ap (λ (b : Bool). when {X = DueTxn} b (k, o.terms.txn)) come
  where
    come : nat_le k now ≡ true
    come = grind (arith, nat_tests)

pub due_list_laws : DueListLaws
due_list_laws = record {
  ascends = λ S h now. pairs_ascend (due_list S h now) (among_ascends S h now (opened S h) (openings_are_apart S h));
  all_due = λ S h now. among_due S h now (opened S h);
  holds_all = λ S h now t k is le.
      let o = due_opened S t h k is in
      let named : o.0.terms.txn ≡ t = opening_is_named S t h o.0 o.1 in
      let here = due_of_here S h now o.0 k (ap (λ (u : Text). due S u h) named ∙ is) le in
      let at_name : Text → Option DueTxn = λ u. Some (k, u) in
      is_contained (due_list S h now) (k, t) (among_holds S h now t (k, t) (opened S h) o.0 o.1 (here ∙ ap at_name named));
}
