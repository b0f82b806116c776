-- What an entry moves: the legs that first arrive with it.
use Rattle.std.proofs.Common.{◌≡◌, ℕ, ◌+◌, Bool, true, false, cond, [], ◌∷◌, Option, Some, None, refl, sym, ◌∙◌, ap, arith}
use Rattle.std.specs.Prelude.{is_some, is_none, ◌&&◌}
use Rattle.upi_words.specs.Prelude.{Entry, Leg, Answer, AccountRef, Account, Opening, Setup, History, opened, opening, is_posted}
use Rattle.upi_base.specs.Setup.{account_at, is_setup}
use Rattle.upi_model.specs.Postings.{has_account, posted_at, share, total, arrival, answer, amount_of, moved}
use Rattle.upi_model.specs.Settlement.{accounts}
use Rattle.upi_laws.specs.Sound.{arrives_with, moved_with, BalanceMoves, BalancesMove}
use Rattle.upi_base.proofs.Lists.{sum_add, sum_all}
use Rattle.upi_model.proofs.Stays.{answer_stays}
use Rattle.upi_model.proofs.Openings.{all_map, openings_are_found}
use Rattle.upi_laws.proofs.Once.{total_opened, arrived_is_answered}
use Rattle.upi_laws.proofs.Conserved.{IsNamedOnce, accounts_named_once, all_covered}

-- what a leg moved, by what it moved before and whether it arrives now
share_more : (own : Bool) (was now : Option Answer) (k j : Option ℕ) (n : ℕ) → is_some k ≡ is_some was → is_some j ≡ is_some now → ((a : Answer) → was ≡ Some a → now ≡ Some a)
    → cond (own && is_posted now) n 0 ≡ cond (own && is_posted was) n 0 + cond (is_none k && is_some j) (cond (own && is_posted now) n 0) 0
share_more own was now k j n before after stays = go was k before now j after stays
  where
    nothing : (b : Bool) → ◌≡◌ {A = ℕ} (cond (b && false) n 0) 0
    nothing true = refl
    nothing false = refl

    go : (was : Option Answer) (k : Option ℕ) → is_some k ≡ is_some was → (now : Option Answer) (j : Option ℕ) → is_some j ≡ is_some now → ((a : Answer) → was ≡ Some a → now ≡ Some a)
        → cond (own && is_posted now) n 0 ≡ cond (own && is_posted was) n 0 + cond (is_none k && is_some j) (cond (own && is_posted now) n 0) 0
    go (Some a) (Some m) e now j f g = let z = ap (λ (o : Option Answer). cond (own && is_posted o) n 0) (g a refl) in omega (arith, z)
    go (Some a) None e now j f g = absurd cc
    go None (Some m) e now j f g = absurd cc
    go None None e None None f g = let z = nothing own in omega (arith, z)
    go None None e (Some a) (Some m) f g = let z = nothing own in omega (arith, z)
    go None None e (Some a) None f g = absurd cc
    go None None e None (Some m) f g = absurd cc

-- the same amount, by its account and by its answer
regroup : (arrives own posted : Bool) (n m : ℕ) → m ≡ n → cond arrives (cond (own && posted) n 0) 0 ≡ cond (arrives && own) (cond posted m 0) 0
regroup true true posted n m e = ap (λ (k : ℕ). cond posted k 0) (sym e)
regroup true false posted n m e = refl
regroup false own posted n m e = refl

-- what one leg of all payments moved, with one entry more
total_more : (S : Setup) (e : Entry) (h : History) (ac : AccountRef) (l : Leg) → total S (opened S (e ∷ h)) (answer S (e ∷ h)) ac l ≡ total S (opened S h) (answer S h) ac l + moved_with S e h ac l
total_more S e h ac l =
    let old : Opening → ℕ = λ o. share S ac l (answer S h o.terms.txn l) o.terms in
    let more : Opening → ℕ = λ o. cond (arrives_with S e h o.terms.txn l && has_account ac (account_at S (posted_at l o.terms))) (moved S (e ∷ h) o.terms.txn l) 0 in
    let each = sum_all (λ (o : Opening). share S ac l (answer S (e ∷ h) o.terms.txn l) o.terms) (λ (o : Opening). old o + more o) (λ (o : Opening). opening S o.terms.txn (e ∷ h) ≡ Some o)
    (λ o is.
    share_more (has_account ac (account_at S (posted_at l o.terms))) (answer S h o.terms.txn l) (answer S (e ∷ h) o.terms.txn l) (arrival S h o.terms.txn l) (arrival S (e ∷ h) o.terms.txn l) o.terms.amount
    (arrived_is_answered S o.terms.txn l h) (arrived_is_answered S o.terms.txn l (e ∷ h)) (answer_stays S o.terms.txn l (e ∷ []) h)
    ∙ ap (λ (n : ℕ). old o + n)
    (regroup (arrives_with S e h o.terms.txn l) (has_account ac (account_at S (posted_at l o.terms))) (is_posted (answer S (e ∷ h) o.terms.txn l)) o.terms.amount (amount_of (opening S o.terms.txn (e ∷ h))) (ap amount_of is)))
    (opened S (e ∷ h)) (openings_are_found S (e ∷ h)) in
    omega (arith, each, sum_add old more (opened S (e ∷ h)), total_opened S e h ac l)

balance_moves : (S : Setup) (e : Entry) (h : History) (a : Account) → IsNamedOnce S a → BalanceMoves S e h a
balance_moves S e h a once =
    omega (arith, total_more S e h a.ac Leg.Debit, total_more S e h a.ac Leg.Reversal, total_more S e h a.ac Leg.Credit, all_covered S h a once, all_covered S (e ∷ h) a once)

pub entries_move_balances : (S : Setup) (P : History) → is_setup S ≡ true → BalancesMove S P
entries_move_balances S [] setup = tt
entries_move_balances S (e ∷ h) setup = all_map (IsNamedOnce S) (BalanceMoves S e h) (λ a once. balance_moves S e h a once) (accounts S) (accounts_named_once S setup)
