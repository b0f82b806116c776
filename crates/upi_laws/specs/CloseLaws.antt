-- The Close: the laws.
use Rattle.std.specs.Prelude.{false, true, Some, ◌≡◌, ◌∷◌, []}
use Rattle.upi_words.specs.Prelude.{Setup, Text, History, is_closed, Opening, opening, Outcome, outcome_of, Entry, Legal, decision, Decision, debit, LegEnd, credit}

-- no place of the transaction is one of the close
pub record IsUncut (S : Setup) (t : Text) (h : History) : Type 0 where
  pub decision_uncut : decision S t h ≡ Some Decision.Close → ⊥
  pub debit_uncut : debit S t h ≡ Some LegEnd.Close → ⊥
  pub credit_uncut : credit S t h ≡ Some LegEnd.Close → ⊥

-- before a Close, at it and after it
pub record CloseLaws : Type 0 where
  -- before a Close no place is one of the close
  pub running_uncut : (S : Setup) (t : Text) (h : History) → is_closed h ≡ false → IsUncut S t h
  -- in a closed history each transaction that was opened has an outcome
  pub closed_have_outcomes : (S : Setup) (t : Text) (h : History) (o : Opening) → is_closed h ≡ true → opening S t h ≡ Some o → (x : Outcome) × (outcome_of S t h ≡ Some x)
  -- at a Close and after it nothing is sent
  pub silent : (S : Setup) (e : Entry) (before : History) → Legal S (e ∷ before) → is_closed (e ∷ before) ≡ true → e.sent ≡ []
