-- How high a balance may rise.
use Rattle.std.proofs.Common.{◌≡◌, ℕ, ◌+◌, ◌*◌, ◌≤◌, Bool, true, false, cond, List, [], ◌∷◌, length, Option, Some, None, refl, sym, ◌∙◌, ap, subst, inl, inr, arith}
use Rattle.std.specs.Prelude.{◌&&◌, nat_lt}
use Rattle.std.specs.Option.{option_map}
use Rattle.std.specs.List.{AllByRecursion}
use Rattle.std.proofs.lemmas.List.Sums.{sum_by-cons}
use Rattle.std.proofs.lemmas.Bool.Decides.{nat_tests}
use Rattle.upi_words.specs.Prelude.{Entry, PayReq, Leg, Code, Answer, AccountRef, Account, Opening, Setup, History, Text, opened, opening, is_posted, balance}
use Rattle.upi_base.specs.Setup.{account_at, is_setup}
use Rattle.upi_model.specs.Postings.{Answers, has_account, posted_at, share, total, balance_by, post_credit, post_leg, post, answer}
use Rattle.upi_model.specs.Settlement.{accounts}
use Rattle.upi_model.specs.Structure.{IsAllowed}
use Rattle.upi_base.proofs.Options.{some_same}
use Rattle.upi_model.proofs.Openings.{all_map, openings_are_allowed, openings_have_room}
use Rattle.upi_laws.proofs.Once.{posted_begun}
use Rattle.upi_laws.proofs.Posted.{credit_forth, posts_one, OnePosts, total_grows, total_here}
use Rattle.upi_laws.proofs.Conserved.{IsNamedOnce, accounts_named_once, all_covered}

pub debits_are_covered : (S : Setup) (h : History) → is_setup S ≡ true
    → AllByRecursion (λ (a : Account). total S (opened S h) (answer S h) a.ac Leg.Debit ≤ a.opening + total S (opened S h) (answer S h) a.ac Leg.Reversal + total S (opened S h) (answer S h) a.ac Leg.Credit) (accounts S)
debits_are_covered S h setup =
    all_map (IsNamedOnce S) (λ (a : Account). total S (opened S h) (answer S h) a.ac Leg.Debit ≤ a.opening + total S (opened S h) (answer S h) a.ac Leg.Reversal + total S (opened S h) (answer S h) a.ac Leg.Credit) (λ a once. all_covered S h a once) (accounts S) (accounts_named_once S setup)

-- ---- all payments together

share_small : (b : Bool) (n : ℕ) → n ≤ 1_000_000_000 → cond b n 0 ≤ 1_000_000_000
share_small true n le = le
share_small false n le = omega arith

total_small : (S : Setup) (answers : Answers) (ac : AccountRef) (l : Leg) (os : List Opening) → AllByRecursion (IsAllowed S) os → total S os answers ac l ≤ length os * 1_000_000_000
total_small S answers ac l [] k = omega arith
total_small S answers ac l (o ∷ os) k =
    let s = share_small (has_account ac (account_at S (posted_at l o.terms)) && is_posted (answers o.terms.txn l)) o.terms.amount k.0.most in
    omega (arith, s, total_small S answers ac l os k.1, sum_by-cons (λ (o : Opening). share S ac l (answers o.terms.txn l) o.terms) o os)

pub totals_are_bounded : (S : Setup) (h : History) (answers : Answers) (ac : AccountRef) (l : Leg) → total S (opened S h) answers ac l ≤ 65_536_000_000_000
totals_are_bounded S h answers ac l = let t = total_small S answers ac l (opened S h) (openings_are_allowed S h) in let n = openings_have_room S h in omega (arith, t, n)

-- ---- a credit is capped

-- a credit that is posted leaves the balance within the cap
capped : (S : Setup) (h : History) (a : Account) (t : Text) (o : Opening) → IsNamedOnce S a → opening S t h ≡ Some o → post S (opened S h) (answer S h) t Leg.Credit ≡ Some Answer.Posted
    → has_account a.ac (account_at S o.terms.payee) ≡ true → balance S a h + o.terms.amount ≤ 1_000_000_000_000_000
capped S h a t o once is e own =
    let k = posted_begun S h t Leg.Credit e in
    let same : k.0 ≡ o = some_same k.0 o (sym k.1 ∙ is) in
    go o (account_at S o.terms.payee) refl (ap (λ (x : Opening). post_leg S (opened S h) (answer S h) x.terms Leg.Credit) (sym same) ∙ k.2) own
  where
    within : (b : ℕ) (q : PayReq) (x : Account) → post_credit b q.amount x ≡ Answer.Posted → b + q.amount ≤ 1_000_000_000_000_000
    within b q x k = blocked x.no_credit (nat_lt 1_000_000_000_000_000 (b + q.amount)) refl k
      where
        blocked : (m n : Bool) → nat_lt 1_000_000_000_000_000 (b + q.amount) ≡ n → cond m (Answer.Declined Code.NoCredit) (cond n (Answer.Declined Code.Cap) Answer.Posted) ≡ Answer.Posted → b + q.amount ≤ 1_000_000_000_000_000
        blocked true n is k = absurd cc
        blocked false true is k = absurd cc
        blocked false false is k = grind (arith, nat_tests)

    go : (o : Opening) (p : Option Account) → account_at S o.terms.payee ≡ p → option_map (λ (x : Account). post_credit (balance_by S (opened S h) (answer S h) x) o.terms.amount x) p ≡ Some Answer.Posted → has_account a.ac p ≡ true
        → balance S a h + o.terms.amount ≤ 1_000_000_000_000_000
    go o None at k own = absurd cc
    go o (Some b) at k own =
        let f = within (balance S b h) o.terms b (some_same (post_credit (balance_by S (opened S h) (answer S h) b) o.terms.amount b) Answer.Posted k) in
        subst (λ (x : Account). balance S x h + o.terms.amount ≤ 1_000_000_000_000_000) (once o.terms.payee b at own) f

-- what was given stays within the cap and what was taken
abbrev Capped : Setup → History → Account → Type 0
Capped S h a = a.opening + total S (opened S h) (answer S h) a.ac Leg.Credit ≤ 1_000_000_000_000_000 + total S (opened S h) (answer S h) a.ac Leg.Debit

credits_capped : (S : Setup) (e : Entry) (h : History) (a : Account) → IsNamedOnce S a → Capped S h a
    → a.opening + total S (opened S h) (answer S (e ∷ h)) a.ac Leg.Credit ≤ 1_000_000_000_000_000 + total S (opened S h) (answer S h) a.ac Leg.Debit
credits_capped S e h a once before = elim (posts_one S e h Leg.Credit credit_forth) [
  | inl nothing ↦ let n = nothing a.ac in omega (arith, n, before)
  | inr one ↦ within one (has_account a.ac (account_at S one.o.terms.payee)) refl
]
  where
    within : (one : OnePosts S e h Leg.Credit credit_forth) (own : Bool) → has_account a.ac (account_at S one.o.terms.payee) ≡ own
        → a.opening + total S (opened S h) (answer S (e ∷ h)) a.ac Leg.Credit ≤ 1_000_000_000_000_000 + total S (opened S h) (answer S h) a.ac Leg.Debit
    within one true mine =
        let room = capped S h a one.t one.o once one.begun one.posts mine in
        let g = subst (λ (b : Bool). total S (opened S h) (answer S (e ∷ h)) a.ac Leg.Credit ≤ total S (opened S h) (answer S h) a.ac Leg.Credit + cond b one.o.terms.amount 0) mine (one.gains a.ac) in
        omega (arith, g, room)
    within one false mine =
        let g = subst (λ (b : Bool). total S (opened S h) (answer S (e ∷ h)) a.ac Leg.Credit ≤ total S (opened S h) (answer S h) a.ac Leg.Credit + cond b one.o.terms.amount 0) mine (one.gains a.ac) in
        omega (arith, g, before)

all_capped : (S : Setup) (h : History) (a : Account) → IsNamedOnce S a → a.opening ≤ 1_000_000_000_000_000 → Capped S h a
all_capped S [] a once small = omega (arith, small)
all_capped S (e ∷ h) a once small =
    omega (arith, credits_capped S e h a once (all_capped S h a once small), total_here S e h a.ac Leg.Credit, total_here S e h a.ac Leg.Debit, total_grows S e h a.ac Leg.Debit (opened S h))

balance_capped : (S : Setup) (h : History) (a : Account) → IsNamedOnce S a → a.opening ≤ 1_000_000_000_000_000 → balance S a h ≤ 1_000_000_000_000_000 + total S (opened S h) (answer S h) a.ac Leg.Reversal
balance_capped S h a once small = let c = all_capped S h a once small in omega (arith, c)

pub balances_are_capped : (S : Setup) (h : History) → is_setup S ≡ true
    → AllByRecursion (λ (a : Account). a.opening ≤ 1_000_000_000_000_000 → balance S a h ≤ 1_000_000_000_000_000 + total S (opened S h) (answer S h) a.ac Leg.Reversal) (accounts S)
balances_are_capped S h setup =
    all_map (IsNamedOnce S) (λ (a : Account). a.opening ≤ 1_000_000_000_000_000 → balance S a h ≤ 1_000_000_000_000_000 + total S (opened S h) (answer S h) a.ac Leg.Reversal) (λ a once small. balance_capped S h a once small) (accounts S) (accounts_named_once S setup)
