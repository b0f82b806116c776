-- Balances and money in flight keep their sum.
use Rattle.std.proofs.Common.{◌≡◌, ℕ, ◌+◌, ◌-◌, ◌≤◌, Bool, true, false, cond, List, [], ◌∷◌, Option, Some, None, refl, sym, ◌∙◌, ap, subst, inl, inr, arith}
use Rattle.std.specs.Prelude.{is_some, not, ◌&&◌, nat_lt}
use Rattle.std.specs.Option.{option_map}
use Rattle.std.specs.List.{AllByRecursion, sum_by}
use Rattle.std.proofs.lemmas.Option.{option_and_then_some}
use Rattle.std.proofs.lemmas.Bool.Decides.{nat_tests}
use Rattle.upi_words.specs.Prelude.{Entry, PayReq, Leg, Code, Answer, Account, Listing, Opening, Setup, History, Text, opened, opening, is_posted, balance, flight, Legal}
use Rattle.upi_base.specs.Setup.{same_account, account_named, listing_at, account_at, is_setup}
use Rattle.upi_model.specs.Postings.{has_account, total, balance_by, post_debit, post_leg, post, answer, in_flight}
use Rattle.upi_model.specs.Settlement.{accounts}
use Rattle.upi_model.specs.Structure.{IsAllowed}
use Rattle.upi_laws.specs.Sound.{MoneyKept}
use Rattle.upi_base.proofs.Options.{some_same, is_some_has}
use Rattle.upi_base.proofs.Lists.{sum_add, sum_all}
use Rattle.upi_base.proofs.Setups.{same_account_is}
use Rattle.upi_model.proofs.Openings.{openings_are_allowed}
use Rattle.upi_laws.proofs.Once.{posted_begun}
use Rattle.upi_laws.proofs.Legs.{posted_is, returned_taken, given_taken, given_unreversed}
use Rattle.upi_laws.proofs.Setups.{accounts_found, named_found}
use Rattle.upi_laws.proofs.Posted.{debit_forth, posts_one, total_grows, total_here}
use Rattle.upi_laws.proofs.Sums.{counts, moves_at, totals}

-- ---- one name, one account

-- an account that has the name of an address's account is that account
abbrev pub IsNamedOnce : Setup → Account → Type 0
IsNamedOnce S a = (addr : Text) (b : Account) → account_at S addr ≡ Some b → same_account b.ac a.ac ≡ true → b ≡ a

named_once : (S : Setup) (xs : List Account) → is_setup S ≡ true → AllByRecursion (λ (a : Account). account_named S a.ac ≡ Some a) xs → AllByRecursion (IsNamedOnce S) xs
named_once S [] setup p = tt
named_once S (a ∷ xs) setup p = (
  λ addr b at same. option_and_then_some (λ (l : Listing). account_named S l.ac) (listing_at S addr) b at (λ l _ named.
      let own = named_found S l.ac b named in
      some_same b a (sym own.1 ∙ (ap (account_named S) (same_account_is b.ac a.ac same) ∙ p.0))),
  named_once S xs setup p.1,
)

pub accounts_named_once : (S : Setup) → is_setup S ≡ true → AllByRecursion (IsNamedOnce S) (accounts S)
accounts_named_once S setup = named_once S (accounts S) setup (accounts_found S setup)

-- ---- a debit is covered

-- what a debit takes that is posted was there
covered : (S : Setup) (h : History) (a : Account) (t : Text) (o : Opening) → IsNamedOnce S a → opening S t h ≡ Some o → post S (opened S h) (answer S h) t Leg.Debit ≡ Some Answer.Posted
    → cond (has_account a.ac (account_at S o.terms.payer)) o.terms.amount 0 ≤ balance S a h
covered S h a t o once is e =
    let k = posted_begun S h t Leg.Debit e in
    let same : k.0 ≡ o = some_same k.0 o (sym k.1 ∙ is) in
    go o (account_at S o.terms.payer) refl (ap (λ (x : Opening). post_leg S (opened S h) (answer S h) x.terms Leg.Debit) (sym same) ∙ k.2)
  where
    enough : (r : Option Answer) (b : ℕ) (q : PayReq) (x : Account) → post_debit r b q.amount x ≡ Answer.Posted → q.amount ≤ b
    enough (Some y) b q x k = absurd cc
    enough None b q x k = blocked x.no_debit (nat_lt b q.amount) refl k
      where
        blocked : (m n : Bool) → nat_lt b q.amount ≡ n → cond m (Answer.Declined Code.NoDebit) (cond n (Answer.Declined Code.Funds) Answer.Posted) ≡ Answer.Posted → q.amount ≤ b
        blocked true n is k = absurd cc
        blocked false true is k = absurd cc
        blocked false false is k = grind (arith, nat_tests)

    go : (o : Opening) (p : Option Account) → account_at S o.terms.payer ≡ p → option_map (λ (x : Account). post_debit (answer S h o.terms.txn Leg.Reversal) (balance_by S (opened S h) (answer S h) x) o.terms.amount x) p ≡ Some Answer.Posted
        → cond (has_account a.ac p) o.terms.amount 0 ≤ balance S a h
    go o None at k = absurd cc
    go o (Some b) at k = named (same_account b.ac a.ac) refl
      where
        named : (c : Bool) → same_account b.ac a.ac ≡ c → cond c o.terms.amount 0 ≤ balance S a h
        named false n = omega arith
        named true n =
            let f = enough (answer S h o.terms.txn Leg.Reversal) (balance S b h) o.terms b (some_same (post_debit (answer S h o.terms.txn Leg.Reversal) (balance_by S (opened S h) (answer S h) b) o.terms.amount b) Answer.Posted k) in
            subst (λ (x : Account). o.terms.amount ≤ balance S x h) (once o.terms.payer b at n) f

abbrev Covered : Setup → History → Account → Type 0
Covered S h a = total S (opened S h) (answer S h) a.ac Leg.Debit ≤ a.opening + total S (opened S h) (answer S h) a.ac Leg.Reversal + total S (opened S h) (answer S h) a.ac Leg.Credit

-- the payments before, as they are answered with this entry
debits_covered : (S : Setup) (e : Entry) (h : History) (a : Account) → IsNamedOnce S a → Covered S h a
    → total S (opened S h) (answer S (e ∷ h)) a.ac Leg.Debit ≤ a.opening + total S (opened S h) (answer S h) a.ac Leg.Reversal + total S (opened S h) (answer S h) a.ac Leg.Credit
debits_covered S e h a once before = elim (posts_one S e h Leg.Debit debit_forth) [
  | inl nothing ↦ let n = nothing a.ac in omega (arith, n, before)
  | inr one ↦ let room = covered S h a one.t one.o once one.begun one.posts in let g = one.gains a.ac in omega (arith, g, room, before)
]

pub all_covered : (S : Setup) (h : History) (a : Account) → IsNamedOnce S a → Covered S h a
all_covered S [] a once = omega arith
all_covered S (e ∷ h) a once =
    omega (
      arith,
      debits_covered S e h a once (all_covered S h a once),
      total_here S e h a.ac Leg.Debit,
      total_here S e h a.ac Leg.Reversal,
      total_here S e h a.ac Leg.Credit,
      total_grows S e h a.ac Leg.Reversal (opened S h),
      total_grows S e h a.ac Leg.Credit (opened S h),
    )

-- ---- what is counted keeps its sum

-- what a leg of all payments moved, at the accounts that are counted
abbrev pub moved_at : Setup → (Account → Bool) → Leg → History → ℕ
moved_at S w l h = sum_by (moves_at S w (answer S h) l) (opened S h)

-- balances and debits are openings, reversals and credits, over the accounts that are counted
pub counted_keep : (S : Setup) (w : Account → Bool) (h : History) → is_setup S ≡ true
    → sum_by (λ (a : Account). cond (w a) (balance S a h) 0) (accounts S) + moved_at S w Leg.Debit h ≡ sum_by (λ (a : Account). cond (w a) a.opening 0) (accounts S) + moved_at S w Leg.Reversal h + moved_at S w Leg.Credit h
counted_keep S w h setup =
    let D : Account → ℕ = λ a. cond (w a) (total S (opened S h) (answer S h) a.ac Leg.Debit) 0 in
    let R : Account → ℕ = λ a. cond (w a) (total S (opened S h) (answer S h) a.ac Leg.Reversal) 0 in
    let C : Account → ℕ = λ a. cond (w a) (total S (opened S h) (answer S h) a.ac Leg.Credit) 0 in
    let B : Account → ℕ = λ a. cond (w a) (balance S a h) 0 in
    let O : Account → ℕ = λ a. cond (w a) a.opening 0 in
    let each : sum_by (λ (a : Account). B a + D a) (accounts S) ≡ sum_by (λ (a : Account). O a + R a + C a) (accounts S)
    = sum_all (λ (a : Account). B a + D a) (λ (a : Account). O a + R a + C a) (IsNamedOnce S) (λ a once. one (w a) a.opening (total S (opened S h) (answer S h) a.ac Leg.Reversal) (total S (opened S h) (answer S h) a.ac Leg.Credit) (total S (opened S h) (answer S h) a.ac Leg.Debit) (all_covered S h a once)) (accounts S) (accounts_named_once S setup) in
    let known = openings_are_allowed S h in
    let d = totals S w (answer S h) Leg.Debit (opened S h) setup known in
    let r = totals S w (answer S h) Leg.Reversal (opened S h) setup known in
    let c = totals S w (answer S h) Leg.Credit (opened S h) setup known in
    omega (arith, each, d, r, c, sum_add B D (accounts S), sum_add (λ (a : Account). O a + R a) C (accounts S), sum_add O R (accounts S))
  where
    one : (b : Bool) (o r c d : ℕ) → d ≤ o + r + c → cond b (o + r + c - d) 0 + cond b d 0 ≡ cond b o 0 + cond b r 0 + cond b c 0
    one true o r c d le = omega (arith, le)
    one false o r c d le = omega arith

-- ---- money in flight

-- a debit that moved was returned, or given, or is in flight
split : (d c r : Bool) (n : ℕ) → (c ≡ true → d ≡ true) → (r ≡ true → d ≡ true) → (r ≡ true → c ≡ true → ⊥) → cond d n 0 ≡ cond c n 0 + cond r n 0 + cond (d && not c && not r) n 0
split true true true n f g h = absurd (h refl refl)
split true true false n f g h = omega arith
split true false true n f g h = omega arith
split true false false n f g h = omega arith
split false true r n f g h = absurd (let z : false ≡ true = f refl in cc)
split false false true n f g h = absurd (let z : false ≡ true = g refl in cc)
split false false false n f g h = omega arith

all_count : (S : Setup) (addr : Text) (p : Bool) (n : ℕ) → is_some (account_at S addr) ≡ true → cond (counts (λ (a : Account). true) (account_at S addr) && p) n 0 ≡ cond p n 0
all_count S addr p n known = let k = is_some_has (account_at S addr) known in ap (λ (o : Option Account). cond (counts (λ (a : Account). true) o && p) n 0) k.1

pub flight_splits : (S : Setup) (h : History) → Legal S h → moved_at S (λ (a : Account). true) Leg.Debit h ≡ moved_at S (λ (a : Account). true) Leg.Credit h + moved_at S (λ (a : Account). true) Leg.Reversal h + flight S h
flight_splits S h legal =
    let w : Account → Bool = λ a. true in
    let F : Opening → ℕ = λ o. in_flight (answer S h o.terms.txn Leg.Debit) (answer S h o.terms.txn Leg.Credit) (answer S h o.terms.txn Leg.Reversal) o.terms in
    let C = moves_at S w (answer S h) Leg.Credit in
    let R = moves_at S w (answer S h) Leg.Reversal in
    let each : sum_by (moves_at S w (answer S h) Leg.Debit) (opened S h) ≡ sum_by (λ (o : Opening). C o + R o + F o) (opened S h)
    = sum_all (moves_at S w (answer S h) Leg.Debit) (λ (o : Opening). C o + R o + F o) (IsAllowed S) (λ o known.
    let d = all_count S o.terms.payer (is_posted (answer S h o.terms.txn Leg.Debit)) o.terms.amount known.payer_known in
    let c = all_count S o.terms.payee (is_posted (answer S h o.terms.txn Leg.Credit)) o.terms.amount known.payee_known in
    let r = all_count S o.terms.payer (is_posted (answer S h o.terms.txn Leg.Reversal)) o.terms.amount known.payer_known in
    let s = split (is_posted (answer S h o.terms.txn Leg.Debit)) (is_posted (answer S h o.terms.txn Leg.Credit)) (is_posted (answer S h o.terms.txn Leg.Reversal)) o.terms.amount
    (λ p. ap is_posted (given_taken S h o.terms.txn Answer.Posted legal (posted_is (answer S h o.terms.txn Leg.Credit) p)))
    (λ p. ap is_posted (returned_taken S h o.terms.txn (posted_is (answer S h o.terms.txn Leg.Reversal) p)))
    (λ p q. given_unreversed S h o.terms.txn Answer.Posted legal (posted_is (answer S h o.terms.txn Leg.Credit) q) (posted_is (answer S h o.terms.txn Leg.Reversal) p)) in
    omega (arith, d, c, r, s)) (opened S h) (openings_are_allowed S h) in
    omega (arith, each, sum_add (λ (o : Opening). C o + R o) F (opened S h), sum_add C R (opened S h))

pub legal_keeps_money : (S : Setup) (P : History) → is_setup S ≡ true → Legal S P → MoneyKept S P
legal_keeps_money S P setup legal = let k = counted_keep S (λ (a : Account). true) P setup in let f = flight_splits S P legal in omega (arith, k, f)
