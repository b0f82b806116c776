-- Sums over accounts, over openings and over banks.
use Rattle.std.proofs.Common.{◌≡◌, ℕ, ◌+◌, ◌*◌, Bool, true, false, cond, List, [], ◌∷◌, ◌++◌, Option, Some, None, refl, sym, ◌∙◌, ap, arith}
use Rattle.std.specs.Prelude.{◌&&◌}
use Rattle.std.specs.Option.{option_or, option_and_then}
use Rattle.std.specs.List.{AllByRecursion, sum_by, count_by}
use Rattle.std.proofs.lemmas.List.Sums.{sum_by-cons, sum_by-append}
use Rattle.std.proofs.lemmas.Slice.Eq.{bytes_eq-Decides}
use Rattle.upi_words.specs.Prelude.{PayReq, Leg, Answer, Account, Opening, Setup, History, Text, is_closed, event_of, opened, opening, is_posted}
use Rattle.upi_base.specs.Lists.{when, pick, joined}
use Rattle.upi_base.specs.Setup.{same_account, account_at, is_setup}
use Rattle.upi_model.specs.Places.{has_id, if_of, opens}
use Rattle.upi_model.specs.Postings.{Answers, has_account, posted_at, share, total}
use Rattle.upi_model.specs.Settlement.{accounts}
use Rattle.upi_model.specs.Structure.{IsAllowed}
use Rattle.upi_base.proofs.Options.{or_none, is_some_has}
use Rattle.upi_base.proofs.Lists.{sum_add, sum_same, sum_none, sum_all}
use Rattle.upi_model.proofs.Stays.{opening_more}
use Rattle.upi_model.proofs.Openings.{opens_found}
use Rattle.upi_laws.proofs.Setups.{AddressAccount, address_account}

-- ---- sums

-- what one amount adds, over those that pass
pub amount_each : {X : Type 0} (q : X → Bool) (p : Bool) (n : ℕ) (xs : List X) → count_by q xs ≡ 1 → sum_by (λ (a : X). cond (q a && p) n 0) xs ≡ cond p n 0
amount_each q p n xs one = counted xs ∙ (ap (λ (k : ℕ). k * cond p n 0) one ∙ omega arith)
  where
    step : (b : Bool) (s c : ℕ) → s ≡ c * cond p n 0 → cond (b && p) n 0 + s ≡ (cond b 1 0 + c) * cond p n 0
    step true s c e = omega arith
    step false s c e = omega arith

    counted : (xs : List _) → sum_by (λ (a : _). cond (q a && p) n 0) xs ≡ count_by q xs * cond p n 0
    counted [] = omega arith
    counted (x ∷ xs) =
        sum_by-cons (λ (a : _). cond (q a && p) n 0) x xs
        ∙ (step (q x) (sum_by (λ (a : _). cond (q a && p) n 0) xs) (count_by q xs) (counted xs)
        ∙ ap (λ (k : ℕ). k * cond p n 0) (sym (sum_by-cons (λ (a : _). cond (q a) 1 0) x xs)))

-- ---- the sum over one transaction

abbrev pub of_opening : (Opening → ℕ) → Option Opening → ℕ
of_opening f None = 0
of_opening f (Some o) = f o

none_has : (t : Text) (f : Opening → ℕ) (xs : List Opening) → pick (if_of t) xs ≡ None → sum_by (λ (o : Opening). cond (has_id t o) (f o) 0) xs ≡ 0
none_has t f [] e = refl
none_has t f (x ∷ xs) e = go (has_id t x) refl (none_has t f xs) e
  where
    go : (b : Bool) → has_id t x ≡ b → (pick (if_of t) xs ≡ None → sum_by (λ (o : Opening). cond (has_id t o) (f o) 0) xs ≡ 0) → option_or (when b x) (pick (if_of t) xs) ≡ None
        → sum_by (λ (o : Opening). cond (has_id t o) (f o) 0) (x ∷ xs) ≡ 0
    go true is ih k = absurd cc
    go false is ih k =
        let n : cond (has_id t x) (f x) 0 ≡ 0 = ap (λ (b : Bool). cond b (f x) 0) is in
        omega (arith, ih k, n, sum_by-cons (λ (o : Opening). cond (has_id t o) (f o) 0) x xs)

pub sum_at : (S : Setup) (t : Text) (f : Opening → ℕ) (h : History) → sum_by (λ (o : Opening). cond (has_id t o) (f o) 0) (opened S h) ≡ of_opening f (opening S t h)
sum_at S t f [] = refl
sum_at S t f (e ∷ h) = go (opens S (opened S h) (is_closed h) (event_of h e.call) e.at) refl (sum_at S t f h)
  where
    none_or : (p : Option Opening) (q : Opening) → p ≡ None → has_id t q ≡ true → option_or p (if_of t q) ≡ Some q
    none_or p q a b = rw (a, b) refl

    or_other : (p : Option Opening) (q : Opening) → has_id t q ≡ false → option_or p (if_of t q) ≡ p
    or_other p q b = rw b (or_none p)

    added : (q : Opening) → opens S (opened S h) (is_closed h) (event_of h e.call) e.at ≡ Some q → sum_by (λ (o : Opening). cond (has_id t o) (f o) 0) (opened S h) ≡ of_opening f (opening S t h) → (b : Bool) → has_id t q ≡ b
        → sum_by (λ (o : Opening). cond (has_id t o) (f o) 0) (opened S h ++ q ∷ []) ≡ of_opening f (option_or (opening S t h) (if_of t q))
    added q is ih true has =
        let none : opening S t h ≡ None = ap (λ (u : Text). opening S u h) (sym ((bytes_eq-Decides q.terms.txn t).0 has)) ∙ (opens_found S e h q is).0 in
        let z = none_has t f (opened S h) none in
        let n : cond (has_id t q) (f q) 0 ≡ f q = ap (λ (b : Bool). cond b (f q) 0) has in
        let r : of_opening f (option_or (opening S t h) (if_of t q)) ≡ f q = ap (of_opening f) (none_or (opening S t h) q none has) in
        omega (arith, sum_by-append (λ (o : Opening). cond (has_id t o) (f o) 0) (opened S h) (q ∷ []), z, n, r)
    added q is ih false has =
        let n : cond (has_id t q) (f q) 0 ≡ 0 = ap (λ (b : Bool). cond b (f q) 0) has in
        let r : of_opening f (option_or (opening S t h) (if_of t q)) ≡ of_opening f (opening S t h) = ap (of_opening f) (or_other (opening S t h) q has) in
        omega (arith, sum_by-append (λ (o : Opening). cond (has_id t o) (f o) 0) (opened S h) (q ∷ []), ih, n, r)

    go : (o : Option Opening) → opens S (opened S h) (is_closed h) (event_of h e.call) e.at ≡ o → sum_by (λ (o : Opening). cond (has_id t o) (f o) 0) (opened S h) ≡ of_opening f (opening S t h)
        → sum_by (λ (o : Opening). cond (has_id t o) (f o) 0) (joined (opened S h) o) ≡ of_opening f (opening S t (e ∷ h))
    go None is ih = ih ∙ sym (ap (of_opening f) (opening_more S t e h ∙ (ap (λ (x : Option Opening). option_or (opening S t h) (option_and_then (if_of t) x)) is ∙ or_none (opening S t h))))
    go (Some q) is ih =
        added q is ih (has_id t q) refl ∙ sym (ap (of_opening f) (opening_more S t e h ∙ ap (λ (x : Option Opening). option_or (opening S t h) (option_and_then (if_of t) x)) is))

-- ---- accounts and payments

-- which accounts are counted, by their addresses
abbrev pub counts : (Account → Bool) → Option Account → Bool
counts w None = false
counts w (Some a) = w a

-- what a leg of a payment moved, at the accounts that are counted
abbrev pub moves_at : Setup → (Account → Bool) → Answers → Leg → Opening → ℕ
moves_at S w answers l o = cond (counts w (account_at S (posted_at l o.terms)) && is_posted (answers o.terms.txn l)) o.terms.amount 0

share_at : (w : Account → Bool) (k x : Account) (p : Bool) (n : ℕ) → (same_account k.ac x.ac ≡ true → k ≡ x) → cond (w x) (cond (same_account k.ac x.ac && p) n 0) 0 ≡ cond (same_account k.ac x.ac && (w k && p)) n 0
share_at w k x p n alone = go (same_account k.ac x.ac) refl
  where
    none : (b : Bool) → ◌≡◌ {A = ℕ} (cond b 0 0) 0
    none true = refl
    none false = refl

    some : (b c : Bool) → b ≡ c → cond b (cond p n 0) 0 ≡ cond (c && p) n 0
    some true true e = refl
    some false false e = refl
    some true false e = absurd cc
    some false true e = absurd cc

    go : (b : Bool) → same_account k.ac x.ac ≡ b → cond (w x) (cond (b && p) n 0) 0 ≡ cond (b && (w k && p)) n 0
    go true is = some (w x) (w k) (ap w (sym (alone is)))
    go false is = none (w x)

shares : (S : Setup) (w : Account → Bool) (l : Leg) (a : Option Answer) (r : PayReq) (k : Account) → account_at S (posted_at l r) ≡ Some k → AddressAccount S k
    → sum_by (λ (x : Account). cond (w x) (share S x.ac l a r) 0) (accounts S) ≡ cond (counts w (account_at S (posted_at l r)) && is_posted a) r.amount 0
shares S w l a r k at own =
    let here : (x : Account) → cond (w x) (share S x.ac l a r) 0 ≡ cond (w x) (cond (same_account k.ac x.ac && is_posted a) r.amount 0) 0 = λ x. ap (λ (o : Option Account). cond (w x) (cond (has_account x.ac o && is_posted a) r.amount 0) 0) at in
    sum_same (λ (x : Account). cond (w x) (share S x.ac l a r) 0) (λ (x : Account). cond (w x) (cond (same_account k.ac x.ac && is_posted a) r.amount 0) 0) here (accounts S)
    ∙ (sum_all (λ (x : Account). cond (w x) (cond (same_account k.ac x.ac && is_posted a) r.amount 0) 0) (λ (x : Account). cond (same_account k.ac x.ac && (w k && is_posted a)) r.amount 0) (λ (x : Account). same_account k.ac x.ac ≡ true → k ≡ x) (λ x alone. share_at w k x (is_posted a) r.amount alone) (accounts S) own.alone
    ∙ (amount_each (λ (x : Account). same_account k.ac x.ac) (w k && is_posted a) r.amount (accounts S) own.once
    ∙ ap (λ (o : Option Account). cond (counts w o && is_posted a) r.amount 0) (sym at)))

pub known_at : (S : Setup) (l : Leg) (o : Opening) → IsAllowed S o → (a : Account) × (account_at S (posted_at l o.terms) ≡ Some a)
known_at S Leg.Debit o k = is_some_has (account_at S o.terms.payer) k.payer_known
known_at S Leg.Credit o k = is_some_has (account_at S o.terms.payee) k.payee_known
known_at S Leg.Reversal o k = is_some_has (account_at S o.terms.payer) k.payer_known

cond_add : (b : Bool) (m n : ℕ) → cond b (m + n) 0 ≡ cond b m 0 + cond b n 0
cond_add true m n = refl
cond_add false m n = omega arith

cond_zero : (b : Bool) → ◌≡◌ {A = ℕ} (cond b 0 0) 0
cond_zero true = refl
cond_zero false = refl

-- what the accounts moved is what the payments moved
pub totals : (S : Setup) (w : Account → Bool) (answers : Answers) (l : Leg) (os : List Opening) → is_setup S ≡ true → AllByRecursion (IsAllowed S) os
    → sum_by (λ (a : Account). cond (w a) (total S os answers a.ac l) 0) (accounts S) ≡ sum_by (moves_at S w answers l) os
totals S w answers l [] setup known = sum_same (λ (a : Account). cond (w a) 0 0) (λ (a : Account). 0) (λ a. cond_zero (w a)) (accounts S) ∙ sum_none (accounts S)
totals S w answers l (o ∷ os) setup known =
    let k = known_at S l o known.0 in
    let each : (a : Account) → cond (w a) (total S (o ∷ os) answers a.ac l) 0 ≡ cond (w a) (share S a.ac l (answers o.terms.txn l) o.terms) 0 + cond (w a) (total S os answers a.ac l) 0
    = λ a. ap (λ (n : ℕ). cond (w a) n 0) (sum_by-cons (λ (o : Opening). share S a.ac l (answers o.terms.txn l) o.terms) o os) ∙ cond_add (w a) (share S a.ac l (answers o.terms.txn l) o.terms) (total S os answers a.ac l) in
    let s = shares S w l (answers o.terms.txn l) o.terms k.0 k.1 (address_account S (posted_at l o.terms) k.0 setup k.1) in
    let t = totals S w answers l os setup known.1 in
    sum_same (λ (a : Account). cond (w a) (total S (o ∷ os) answers a.ac l) 0) (λ (a : Account). cond (w a) (share S a.ac l (answers o.terms.txn l) o.terms) 0 + cond (w a) (total S os answers a.ac l) 0) each (accounts S)
    ∙ (sum_add (λ (a : Account). cond (w a) (share S a.ac l (answers o.terms.txn l) o.terms) 0) (λ (a : Account). cond (w a) (total S os answers a.ac l) 0) (accounts S)
    ∙ omega (arith, s, t, sum_by-cons (moves_at S w answers l) o os))
