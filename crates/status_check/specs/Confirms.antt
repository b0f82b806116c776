-- What confirmations and the status of an outcome have to do with the rules of the model.
use Rattle.std.specs.Prelude.{ℕ, ◌≡◌, Bool, true, false, ◌||◌, Option, Some, None, is_some}
use Rattle.std.specs.Str.{bytes_eq}
use Rattle.upi_words.specs.Prelude.{Outcome, Reply, Said, Event, Opening, Setup, Text}
use Rattle.upi_model.specs.Places.{asking, asked}
use Rattle.upi_model.specs.Replies.{reply_check}
use Rattle.upi_model.specs.Sending.{outcome_messages, sent_due}
use Rattle.upi_model.specs.Standing.{Standing, Sendings, outcome_on, due_on, is_due_on, advance, sending}
use Rattle.status_check.specs.declared.{Confirm.Confirm}

-- it is the reply of the rules to a question for the status, by a PSP of either side
abbrev pub IsStatus : Option Outcome → Reply → Type 0
IsStatus outcome reply = (psp : Text) (o : Opening) → (bytes_eq psp (asking o.terms) || bytes_eq psp (asked o.terms)) ≡ true → reply ≡ reply_check psp outcome (Some o)

-- how a transaction stands that was opened so, and has this outcome
pub record IsOver (s : Standing) (o : Opening) (x : Outcome) : Type 0 where
  pub opened : s.opening ≡ Some o
  pub has : outcome_on s ≡ Some x

-- of a transaction that stands so, and of which this was sent: when its outcome was last confirmed, how often, and whether it was acknowledged
pub record IsConfirmed (c : Confirm) (s : Standing) (m : Sendings) : Type 0 where
  pub last : m.confirmed ≡ Some c.last
  pub count : m.confirmations ≡ c.count
  pub answered : is_some s.acknowledged ≡ c.answered

-- the outcome is sent to both PSPs, for the first time
abbrev pub Begins : Confirm → ℕ → Type 0
Begins c now = (s : Standing) (m : Sendings) (o : Opening) (x : Outcome) → s.acknowledged ≡ None → m.confirmations ≡ 0
    → IsConfirmed c s (sending o.terms.txn m now (outcome_messages o.terms (Some x)))

-- what a Late makes of it, and whether it is confirmed again
pub record Late (old new : Confirm) (again : Bool) (now : ℕ) (S : Setup) (s : Standing) (m : Sendings) (o : Opening) : Type 0 where
  -- it is confirmed again exactly where the rules say that the transaction is due
  pub due : again ≡ is_due_on false s m now
  -- after that the rules have sent a confirmation more, or none
  pub sent : IsConfirmed new s (sending o.terms.txn m now (sent_due S again s s.opening))

-- it is looked whether the transaction is due, before a Close
abbrev pub Lates : Confirm → Confirm → Bool → ℕ → Type 0
Lates old new again now = (S : Setup) (s : Standing) (m : Sendings) (o : Opening) (x : Outcome) → IsOver s o x → IsConfirmed old s m → Late old new again now S s m o

-- the asked PSP says that it was told
abbrev pub Answers : Confirm → Confirm → Type 0
Answers old new = (S : Setup) (room : ℕ) (closed : Bool) (s : Standing) (m : Sendings) (o : Opening) (x : Outcome) (psp txn : Text) (now : ℕ)
    → IsOver s o x → bytes_eq txn o.terms.txn ≡ true → bytes_eq psp (asked o.terms) ≡ true → IsConfirmed old s m
    → IsConfirmed new (advance S o.terms.txn room closed s (Event.Heard psp (Said.Confirmed txn)) now) m

-- it is the due moment of the transaction before a Close
abbrev pub HasDue : Confirm → Option ℕ → Type 0
HasDue c due = (s : Standing) (m : Sendings) (o : Opening) (x : Outcome) → IsOver s o x → IsConfirmed c s m → due ≡ due_on false s m
