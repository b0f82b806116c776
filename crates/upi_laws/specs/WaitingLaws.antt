-- What a transaction waits for: the laws.
use Rattle.std.specs.Prelude.{Some, false, None, ◌≡◌, ℕ}
use Rattle.upi_words.specs.Prelude.{Setup, Text, History, Code, Legal, cause, Leg, Opening, is_closed, opening, outcome_of}
use Rattle.upi_model.specs.Dues.{last_sent, orders, due}

-- what a transaction waits for
pub record WaitingLaws : Type 0 where
  -- in a legal history a reversal that is wanted was sent
  pub reversals_sent : (S : Setup) (t : Text) (h : History) (c : Code) → Legal S h → cause S t h ≡ Some c → (k : ℕ) × (last_sent (orders t Leg.Reversal) h ≡ Some k)
  -- before a Close what is opened and has no outcome is due at a moment
  pub open_are_due : (S : Setup) (t : Text) (h : History) (o : Opening) → Legal S h → is_closed h ≡ false → opening S t h ≡ Some o → outcome_of S t h ≡ None → (k : ℕ) × (due S t h ≡ Some k)
