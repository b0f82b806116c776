-- The reversals that a Close makes arrive, of all shards of transactions, are those that each shard of accounts awaits.
use Rattle.std.proofs.Common.{◌≡◌, ℕ, zero, suc, ◌<◌, Bool, true, false, cond, List, [], ◌∷◌, ◌++◌, Option, Some, None, refl, sym, ap, subst, ◌∙◌, arith, eqb-true}
use Rattle.std.specs.Prelude.{◌&&◌, ◌||◌, ◌==◌, reverse, if◌then◌else◌}
use Rattle.std.specs.Option.{option_or}
use Rattle.std.specs.List.{AllByRecursion, filter, flat_map, list_any}
use Rattle.std.specs.Str.{bytes_eq}
use Rattle.std.proofs.lemmas.Bool.{and_from, and_parts, both_ways}
use Rattle.std.proofs.lemmas.Bool.Decides.{nat_tests}
use Rattle.std.proofs.lemmas.Grind.{flat_map-append}
use Rattle.std.proofs.lemmas.List.{reverse-append}
use Rattle.std.proofs.lemmas.List.Concat.{flat_map-cons}
use Rattle.std.proofs.lemmas.List.Folds.{list_any-append}
use Rattle.std.proofs.lemmas.Slice.Eq.{bytes_eq-Decides}
use Rattle.upi_base.specs.Lists.{pick, when}
use Rattle.upi_base.specs.Setup.{account_at}
use Rattle.upi_base.specs.Shards.{account_shard, txn_shard}
use Rattle.upi_base.proofs.Hashes.{shard_after_is}
use Rattle.upi_base.proofs.Options.{some_same}
use Rattle.upi_words.specs.Prelude.{Account, Leg, Opening, Order, Owner, Sent, Setup, History, Text, is_closed, opened, opening}
use Rattle.upi_model.specs.Accounts.{more, order_of}
use Rattle.upi_model.specs.AtClose.{at_close}
use Rattle.upi_model.specs.Own.{own_deeds}
use Rattle.upi_model.specs.Places.{has_id, if_of, in_shard}
use Rattle.upi_model.specs.Postings.{reversal_due}
use Rattle.upi_model.specs.Sending.{order, order_at}
use Rattle.upi_model.proofs.Gathered.{opening_laws}
use Rattle.upi_model.proofs.Own.{same_is}
use Rattle.upi_model.proofs.Openings.{all_append, opening_is_named}
use Rattle.upi_laws.proofs.AtClose.{close_lists}
use Rattle.account_shard.specs.Closing.{AreReturns, IsReturn, all_returns, is_returned, numbers_to, order_here, orders_at}

-- ---- lists

or_either : (a b : Bool) → a ≡ true → (a || b) ≡ true
or_either true b e = refl
or_either false b e = absurd cc

or_second : (a b : Bool) → b ≡ true → (a || b) ≡ true
or_second true b e = refl
or_second false b e = e

or_flip : (a b : Bool) → (a || (b || false)) ≡ (b || a)
or_flip true true = refl
or_flip true false = refl
or_flip false true = refl
or_flip false false = refl

module _ {X Y : Type 0} (p : Y → Bool) (f : X → List Y) where
  -- what an element of some list says
  any_says : (Q : Type 0) → ((x : X) → list_any p (f x) ≡ true → Q) → (xs : List X) → list_any p (flat_map f xs) ≡ true → Q
  any_says Q says [] e = absurd cc
  any_says Q says (x ∷ xs) e = go (list_any p (f x)) refl (sym (list_any-append p (f x) (flat_map f xs)) ∙ ap (list_any p) (sym (flat_map-cons f x xs)) ∙ e) (λ later. any_says Q says xs later)
    where
      go : (b : Bool) → list_any p (f x) ≡ b → (list_any p (f x) || list_any p (flat_map f xs)) ≡ true → (list_any p (flat_map f xs) ≡ true → Q) → Q
      go true is e later = says x is
      go false is e later = later (ap (λ (b : Bool). b || list_any p (flat_map f xs)) (sym is) ∙ e)

  any_in : (xs ys : List X) (x : X) → list_any p (f x) ≡ true → list_any p (flat_map f (xs ++ x ∷ ys)) ≡ true
  any_in xs ys x e =
      ap (list_any p) (flat_map-append f xs (x ∷ ys)) ∙ list_any-append p (flat_map f xs) (flat_map f (x ∷ ys))
      ∙ or_second (list_any p (flat_map f xs)) (list_any p (flat_map f (x ∷ ys)))
      (ap (list_any p) (flat_map-cons f x ys) ∙ list_any-append p (f x) (flat_map f ys) ∙ or_either (list_any p (f x)) (list_any p (flat_map f ys)) e)

all_flat : {X Y : Type 0} (f : X → List Y) (P : Y → Type 0) → ((x : X) → AllByRecursion P (f x)) → (xs : List X) → AllByRecursion P (flat_map f xs)
all_flat f P each [] = tt
all_flat f P each (x ∷ xs) = subst (AllByRecursion P) (sym (flat_map-cons f x xs)) (all_append P (f x) (flat_map f xs) (each x) (all_flat f P each xs))

any_reverse : {X : Type 0} (p : X → Bool) (xs : List X) → list_any p (reverse xs) ≡ list_any p xs
any_reverse p [] = refl
any_reverse p (x ∷ xs) = ap (list_any p) (reverse-append (x ∷ []) xs) ∙ list_any-append p (reverse xs) (x ∷ []) ∙ ap (λ (b : Bool). b || (p x || false)) (any_reverse p xs) ∙ or_flip (list_any p xs) (p x)

all_reverse : {X : Type 0} (P : X → Type 0) (xs : List X) → AllByRecursion P xs → AllByRecursion P (reverse xs)
all_reverse P [] k = tt
all_reverse P (x ∷ xs) k = subst (AllByRecursion P) (sym (reverse-append (x ∷ []) xs)) (all_append P (reverse xs) (x ∷ []) (all_reverse P xs k.1) (k.0, tt))

-- ---- orders of messages

-- the message is an order of the transaction at the shard
abbrev names_in : ℕ → Text → Option Order → Bool
names_in s t None = false
names_in s t (Some o) = (s == account_shard o.ac) && bytes_eq o.txn t

abbrev names : ℕ → Text → Sent → Bool
names s t m = names_in s t (order_of m.body)

returned_is : (s : ℕ) (t : Text) (ms : List Sent) → is_returned (orders_at s ms) t ≡ list_any (names s t) ms
returned_is s t [] = refl
returned_is s t (m ∷ ms) = go (order_of m.body) (returned_is s t ms)
  where
    go : (x : Option Order) → is_returned (orders_at s ms) t ≡ list_any (names s t) ms → is_returned (more (order_here s x) (orders_at s ms)) t ≡ (names_in s t x || list_any (names s t) ms)
    go None rest = rest
    go (Some o) rest = here (s == account_shard o.ac)
      where
        here : (b : Bool) → is_returned (more (when b o) (orders_at s ms)) t ≡ ((b && bytes_eq o.txn t) || list_any (names s t) ms)
        here true = ap (λ (c : Bool). bytes_eq o.txn t || c) rest
        here false = rest

-- what holds of each message's order at the shard holds of the orders
abbrev Orders : (Order → Type 0) → ℕ → Sent → Type 0
Orders P s m = (o : Order) → order_of m.body ≡ Some o → (s == account_shard o.ac) ≡ true → P o

all_orders : (P : Order → Type 0) (s : ℕ) (ms : List Sent) → AllByRecursion (Orders P s) ms → AllByRecursion P (orders_at s ms)
all_orders P s [] k = tt
all_orders P s (m ∷ ms) k = go (order_of m.body) refl (all_orders P s ms k.1)
  where
    go : (x : Option Order) → order_of m.body ≡ x → AllByRecursion P (orders_at s ms) → AllByRecursion P (more (order_here s x) (orders_at s ms))
    go None is rest = rest
    go (Some o) is rest = here (s == account_shard o.ac) refl
      where
        here : (b : Bool) → (s == account_shard o.ac) ≡ b → AllByRecursion P (more (when b o) (orders_at s ms))
        here true at = (k.0 o is at, rest)
        here false at = rest

-- ---- the reversal of one transaction

module _ (S : Setup) (s : ℕ) (h : History) where
  -- what a Close makes arrive of a transaction
  abbrev return_of : Opening → List Sent
  return_of o = if reversal_due S o.terms.txn h then order S o.terms Leg.Reversal else []

  return_says : (t : Text) (o : Opening) → list_any (names s t) (return_of o) ≡ true → reversal_due S t h ≡ true
  return_says t o e = go (reversal_due S o.terms.txn h) refl (account_at S o.terms.payer) e
    where
      go : (b : Bool) → reversal_due S o.terms.txn h ≡ b → (x : Option Account) → list_any (names s t) (cond b (order_at o.terms Leg.Reversal x) []) ≡ true → reversal_due S t h ≡ true
      go false is x e = absurd cc
      go true is None e = absurd cc
      go true is (Some a) e = ap (λ (u : Text). reversal_due S u h) (sym ((bytes_eq-Decides o.terms.txn t).0 (and_parts (s == account_shard a.ac) (bytes_eq o.terms.txn t) (first ((s == account_shard a.ac) && bytes_eq o.terms.txn t) e)).1)) ∙ is
        where
          first : (b : Bool) → (b || false) ≡ true → b ≡ true
          first true e = refl
          first false e = e

  return_names : (t : Text) (q : Opening) (a : Account) → q.terms.txn ≡ t → account_at S q.terms.payer ≡ Some a → account_shard a.ac ≡ s → reversal_due S t h ≡ true → list_any (names s t) (return_of q) ≡ true
  return_names t q a named held mine due =
      (λ i. list_any (names s t) (cond ((ap (λ (u : Text). reversal_due S u h) named ∙ due) i) (order_at q.terms Leg.Reversal (held i)) []))
      ∙ ap (λ (b : Bool). b || false) (and_from (s == account_shard a.ac) (bytes_eq q.terms.txn t) (same_is s (account_shard a.ac) (sym mine)) ((bytes_eq-Decides q.terms.txn t).1 named))

  -- an order that is sent so is a reversal of its transaction, where that was opened so
  return_is : (q : Opening) → opening S q.terms.txn h ≡ Some q → AllByRecursion (Orders (IsReturn S s h) s) (return_of q)
  return_is q begun = go (reversal_due S q.terms.txn h) (account_at S q.terms.payer) refl
    where
      go : (b : Bool) (x : Option Account) → account_at S q.terms.payer ≡ x → AllByRecursion (Orders (IsReturn S s h) s) (cond b (order_at q.terms Leg.Reversal x) [])
      go false x held = tt
      go true None held = tt
      go true (Some a) held = (one, tt)
        where
          given : Order
          given = record { txn = q.terms.txn; its_leg = Leg.Reversal; amount = q.terms.amount; ac = a.ac }

          one : (o : Order) → Some given ≡ Some o → (s == account_shard o.ac) ≡ true → IsReturn S s h o
          one o is at = subst (IsReturn S s h) same (record {
            q = q;
            begun = begun;
            a = a;
            held = held;
            its_leg_is = refl;
            its_amount = refl;
            its_account = refl;
            its_shard = sym (eqb-true s (account_shard a.ac) (ap (λ (x : Order). s == account_shard x.ac) same ∙ at));
          })
            where
              same : given ≡ o
              same = some_same given o is

  -- ---- of all

  each_opened : (k : ℕ) (os : List Opening) → AllByRecursion (λ (o : Opening). opening S o.terms.txn h ≡ Some o) os → AllByRecursion (Orders (IsReturn S s h) s) (flat_map return_of (filter (in_shard k) os))
  each_opened k [] found = tt
  each_opened k (o ∷ os) found = go (in_shard k o) (each_opened k os found.1)
    where
      go : (b : Bool) → AllByRecursion (Orders (IsReturn S s h) s) (flat_map return_of (filter (in_shard k) os)) → AllByRecursion (Orders (IsReturn S s h) s) (flat_map return_of (cond b (o ∷ filter (in_shard k) os) (filter (in_shard k) os)))
      go true rest = subst (AllByRecursion (Orders (IsReturn S s h) s)) (sym (flat_map-cons return_of o (filter (in_shard k) os))) (all_append (Orders (IsReturn S s h) s) (return_of o) (flat_map return_of (filter (in_shard k) os)) (return_is o found.0) rest)
      go false rest = rest

  shard_has : (t : Text) (k : ℕ) (q : Opening) → in_shard k q ≡ true → list_any (names s t) (return_of q) ≡ true → (os : List Opening) → pick (if_of t) os ≡ Some q → list_any (names s t) (flat_map return_of (filter (in_shard k) os)) ≡ true
  shard_has t k q here named [] found = absurd cc
  shard_has t k q here named (o ∷ os) found = go (in_shard k o) refl (has_id t o) found (λ later. shard_has t k q here named os later)
    where
      with_one : (x : Opening) → list_any (names s t) (return_of x) ≡ true → list_any (names s t) (flat_map return_of (x ∷ filter (in_shard k) os)) ≡ true
      with_one x is = any_in (names s t) return_of [] (filter (in_shard k) os) x is

      go : (c : Bool) → in_shard k o ≡ c → (b : Bool) → option_or (when b o) (pick (if_of t) os) ≡ Some q → (pick (if_of t) os ≡ Some q → list_any (names s t) (flat_map return_of (filter (in_shard k) os)) ≡ true)
          → list_any (names s t) (flat_map return_of (cond c (o ∷ filter (in_shard k) os) (filter (in_shard k) os))) ≡ true
      go true at true found rest = with_one o (ap (λ (x : Opening). list_any (names s t) (return_of x)) (some_same o q found) ∙ named)
      go true at false found rest =
          ap (list_any (names s t)) (flat_map-cons return_of o (filter (in_shard k) os)) ∙ list_any-append (names s t) (return_of o) (flat_map return_of (filter (in_shard k) os))
          ∙ or_second (list_any (names s t) (return_of o)) (list_any (names s t) (flat_map return_of (filter (in_shard k) os))) (rest found)
      go false at true found rest = absurd (both_ways (in_shard k o) at (ap (in_shard k) (some_same o q found) ∙ here))
      go false at false found rest = rest found

  number_in : (t : Text) (f : ℕ → List Sent) (k n : ℕ) → k < n → list_any (names s t) (f k) ≡ true → list_any (names s t) (flat_map f (numbers_to n)) ≡ true
  number_in t f k zero lt e = absurd (omega (arith, lt))
  number_in t f k (suc n) lt e = go (k == n) refl (λ below. number_in t f k n below e)
    where
      below : (k n : ℕ) → k < suc n → (k == n) ≡ false → k < n
      below k n lt other = grind (arith, nat_tests, lt, other)

      go : (b : Bool) → (k == n) ≡ b → (k < n → list_any (names s t) (flat_map f (numbers_to n)) ≡ true) → list_any (names s t) (flat_map f (numbers_to n ++ n ∷ [])) ≡ true
      go true same later = any_in (names s t) f (numbers_to n) [] n (ap (λ (m : ℕ). list_any (names s t) (f m)) (sym (eqb-true k n same)) ∙ e)
      go false other later =
          ap (list_any (names s t)) (flat_map-append f (numbers_to n) (n ∷ [])) ∙ list_any-append (names s t) (flat_map f (numbers_to n)) (flat_map f (n ∷ []))
          ∙ or_either (list_any (names s t) (flat_map f (numbers_to n))) (list_any (names s t) (flat_map f (n ∷ []))) (later (below k n lt other))

  module _ (run : is_closed h ≡ false) where
    lists : (k : ℕ) → at_close S (own_deeds (Owner.Txns k) h) ≡ flat_map return_of (filter (in_shard k) (opened S h))
    lists k = close_lists S k h run

    shard_small : (t : Text) → txn_shard t < 16
    shard_small t = subst (λ (n : ℕ). n < 16) (sym (shard_after_is 0 t)) (omega arith)

    pub returns_are : AreReturns S s h (orders_at s (reverse (all_returns 16 S h)))
    returns_are = record {
      each = all_orders (IsReturn S s h) s (reverse (all_returns 16 S h)) (all_reverse (Orders (IsReturn S s h) s) (all_returns 16 S h)
          (all_flat (λ (k : ℕ). at_close S (own_deeds (Owner.Txns k) h)) (Orders (IsReturn S s h) s)
          (λ k. subst (AllByRecursion (Orders (IsReturn S s h) s)) (sym (lists k)) (each_opened k (opened S h) (opening_laws.found S h))) (numbers_to 16)));
      which = λ t q a begun held mine.
          returned_is s t (reverse (all_returns 16 S h)) ∙ any_reverse (names s t) (all_returns 16 S h)
          ∙ both t q a begun held mine (list_any (names s t) (all_returns 16 S h)) refl (reversal_due S t h) refl;
    }
      where
        says : (t : Text) → list_any (names s t) (all_returns 16 S h) ≡ true → reversal_due S t h ≡ true
        says t e = any_says (names s t) (λ (k : ℕ). at_close S (own_deeds (Owner.Txns k) h)) (reversal_due S t h ≡ true)
            (λ k is. any_says (names s t) return_of (reversal_due S t h ≡ true) (λ o. return_says t o) (filter (in_shard k) (opened S h)) (ap (list_any (names s t)) (sym (lists k)) ∙ is)) (numbers_to 16) e

        has : (t : Text) (q : Opening) (a : Account) → opening S t h ≡ Some q → account_at S q.terms.payer ≡ Some a → account_shard a.ac ≡ s → reversal_due S t h ≡ true → list_any (names s t) (all_returns 16 S h) ≡ true
        has t q a begun held mine due =
            let named : q.terms.txn ≡ t = opening_is_named S t h q begun in
            number_in t (λ (k : ℕ). at_close S (own_deeds (Owner.Txns k) h)) (txn_shard t) 16 (shard_small t)
            (ap (list_any (names s t)) (lists (txn_shard t))
            ∙ shard_has t (txn_shard t) q (same_is (txn_shard q.terms.txn) (txn_shard t) (ap txn_shard named)) (return_names t q a named held mine due) (opened S h) begun)

        both : (t : Text) (q : Opening) (a : Account) → opening S t h ≡ Some q → account_at S q.terms.payer ≡ Some a → account_shard a.ac ≡ s
            → (b : Bool) → list_any (names s t) (all_returns 16 S h) ≡ b → (c : Bool) → reversal_due S t h ≡ c → b ≡ c
        both t q a begun held mine true is true due = refl
        both t q a begun held mine false is false due = refl
        both t q a begun held mine true is false due = absurd (both_ways (reversal_due S t h) due (says t is))
        both t q a begun held mine false is true due = absurd (both_ways (list_any (names s t) (all_returns 16 S h)) is (has t q a begun held mine due))
