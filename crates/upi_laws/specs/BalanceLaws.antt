-- Arrivals and balances: the laws.
use Rattle.std.specs.Prelude.{true, is_some, ◌≡◌, ◌∷◌, ◌≤◌, ◌+◌}
use Rattle.std.specs.List.{AllByRecursion}
use Rattle.upi_words.specs.Prelude.{Setup, Entry, History, Text, Leg, is_closed, event_of, Account, balance, opened, AccountRef}
use Rattle.upi_base.specs.declared.limits.TheConstants.{CREDIT_CAP}
use Rattle.upi_base.specs.Setup.{is_setup}
use Rattle.upi_model.specs.Settlement.{accounts}
use Rattle.upi_model.specs.Postings.{arrives, reversal_due, answer, arrival, total, Answers}

-- each leg that arrives at the entry was answered before
abbrev pub IsNoFirstArrival : Setup → Entry → History → Type 0
IsNoFirstArrival S e before = (t : Text) (l : Leg) → arrives t l (is_closed before) (reversal_due S t before) (event_of before e.call) ≡ true → is_some (answer S before t l) ≡ true

-- arrivals and balances, on every list of entries
pub record BalanceLaws : Type 0 where
  -- a leg is answered exactly where it arrived
  pub arrived_is_answered : (S : Setup) (t : Text) (l : Leg) (h : History) → is_some (arrival S h t l) ≡ is_some (answer S h t l)
  -- only an arrival of a leg that has no answer yet changes a balance
  pub only_arrivals_move : (S : Setup) (e : Entry) (before : History) → IsNoFirstArrival S e before → (a : Account) → balance S a (e ∷ before) ≡ balance S a before
  -- an account never pays more than it has: the subtraction in a balance is exact
  pub debits_covered : (S : Setup) (h : History) → is_setup S ≡ true
      → AllByRecursion (λ (a : Account). total S (opened S h) (answer S h) a.ac Leg.Debit ≤ a.opening + total S (opened S h) (answer S h) a.ac Leg.Reversal + total S (opened S h) (answer S h) a.ac Leg.Credit) (accounts S)
  -- a balance passes the cap by what was returned alone
  pub capped : (S : Setup) (h : History) → is_setup S ≡ true
      → AllByRecursion (λ (a : Account). a.opening ≤ CREDIT_CAP → balance S a h ≤ CREDIT_CAP + total S (opened S h) (answer S h) a.ac Leg.Reversal) (accounts S)
  -- what one leg moves at an account, over all payments, is at most 65,536 times the greatest amount
  pub totals_bounded : (S : Setup) (h : History) (answers : Answers) (ac : AccountRef) (l : Leg) → total S (opened S h) answers ac l ≤ 65_536_000_000_000
