-- The entry that a caller's call makes.
use Rattle.std.specs.Prelude.{ℕ, ◌≡◌, true, ◌∷◌}
use Rattle.upi_model.specs.Types.{Entry, Call, Setup, History}
use Rattle.upi_model.specs.Legal.{may_come, IsLegalEntry, entry_of, Legal}

-- the entries that may come after a history are those that calls make
pub record EntryLaws : Type 0 where
  -- the entry that a call makes is right wherever the call may come
  pub made_right : (S : Setup) (h : History) (caller : ℕ) (c : Call) (now : ℕ) → may_come S h c ≡ true → IsLegalEntry S h (entry_of S h caller c now)
  -- and after a legal history the history with it is legal
  pub made_legal : (S : Setup) (h : History) (caller : ℕ) (c : Call) (now : ℕ) → may_come S h c ≡ true → Legal S h → Legal S (entry_of S h caller c now ∷ h)
  -- an entry that is right is the one that its caller's call makes at its moment
  pub right_made : (S : Setup) (h : History) (e : Entry) → IsLegalEntry S h e → entry_of S h e.caller e.call e.at ≡ e
