-- A row: what a switch keeps of a transaction, and how the transaction stands by it.
use Rattle.std.specs.Prelude.{ℕ, ◌≡◌, Bool, true, false, if◌then◌else◌, List, [], Option, Some, None, is_some}
use Rattle.std.specs.List.{AllByRecursion}
use Rattle.upi_base.specs.Lists.{when}
use Rattle.upi_base.specs.Setup.{account_at}
use Rattle.upi_words.specs.Prelude.{Leg, Outcome, Said, Event, Opening, Sent, Setup, Text}
use Rattle.upi_model.specs.AtClose.{returns_at_close}
use Rattle.upi_model.specs.Happenings.{unopened}
use Rattle.upi_model.specs.Owners.{body_txn}
use Rattle.upi_model.specs.Postings.{Answers}
use Rattle.upi_model.specs.Replies.{reply_by}
use Rattle.upi_model.specs.Sending.{order, sent_between}
use Rattle.upi_model.specs.Standing.{Standing, Sendings, outcome_on, due_on, is_due_on, opens_for, advance, sending}
use Rattle.txn_machine.specs.declared.machine.{Machine.Machine}
use Rattle.txn_machine.specs.Stands.{Transaction, machine_of, stands, returned_of}
use Rattle.status_check.specs.declared.{Confirm.Confirm}
use Rattle.txn_row.specs.declared.machine.{RowMachine.RowMachine}
use Rattle.txn_row.specs.declared.turn.{Progress.Progress, Turn.Turn}

-- what a contract sees of a row: the opening of its transaction, and how far it has come since
pub record Course : Type 0 where
  pub opening : Opening
  pub progress : Progress

-- the one machine that the machines of a PAY and of a COLLECT are
abbrev pub machine_in : RowMachine → Machine
machine_in (RowMachine.Pay m) = m
machine_in (RowMachine.Collect m) = m

-- the machine of a row
abbrev pub its_machine : Course → Machine
its_machine c = machine_in c.progress.machine

-- the row with another progress
abbrev pub after : Course → Progress → Course
after c p = record { opening = c.opening; progress = p }

-- no bank answers: a row knows of none
abbrev pub no_bank : Answers
no_bank t l = None

-- The transaction of a row. Two moments the row doesn't keep: when the reversal ended, and when the outcome was acknowledged.
abbrev pub transaction : Setup → ℕ → Answers → Course → ℕ → Option ℕ → Transaction
transaction S room says c reversed told = record { setup = S; opening = c.opening; room = room; says = says; reversed = reversed; acknowledged = told }

-- how the transaction of a row stands, by these two moments
abbrev pub stands_with : Course → ℕ → Option ℕ → Standing
stands_with c reversed told = stands (its_machine c) (transaction [] 0 no_bank c reversed told)

-- the asked PSP has answered to the confirmation
abbrev pub is_answered : Option Confirm → Bool
is_answered None = false
is_answered (Some f) = f.answered

-- when the outcome was last confirmed
abbrev pub last_of : Option Confirm → Option ℕ
last_of None = None
last_of (Some f) = Some f.last

-- how often the outcome was confirmed
abbrev pub count_of : Option Confirm → ℕ
count_of None = 0
count_of (Some f) = f.count

-- what was sent of the transaction of a row that may be sent again
abbrev pub sendings_of : Course → Sendings
sendings_of c = record { returned = returned_of (its_machine c).stage; confirmed = last_of c.progress.confirm; confirmations = count_of c.progress.confirm }

-- the row of a transaction stands so: whether the outcome was acknowledged it knows, and at which moment it does not
abbrev pub shown : Course → Standing
shown c = stands_with c 0 (when (is_answered c.progress.confirm) 0)

-- the outcome of the transaction of a row, if there is one
abbrev pub outcome_in : Course → Option Outcome
outcome_in c = outcome_on (shown c)

-- its outcome after a Close
abbrev pub closed_outcome_in : Course → Option Outcome
closed_outcome_in c = outcome_on (advance [] c.opening.terms.txn 0 false (shown c) Event.Close 0)

-- when the transaction of a row is due, if it is, before a Close
abbrev pub due_in : Course → Option ℕ
due_in c = due_on false (shown c) (sendings_of c)

-- a Close would make its reversal arrive
abbrev pub returns_in : Course → Bool
returns_in c = returns_at_close (shown c)

-- the reversal that a Close would make arrive of a row
abbrev pub row_returns : Setup → Course → List Sent
row_returns S c = if returns_in c then order S c.opening.terms Leg.Reversal else []

-- each row is one: its machine is one of its transaction, and it counts confirmations as soon as there is an outcome
pub record IsRow (c : Course) : Type 0 where
  pub of : its_machine c ≡ machine_of c.opening (its_machine c).stage
  pub told : is_some c.progress.confirm ≡ is_some (outcome_in c)

-- A transaction stands so, and this was sent of it, as far as its row knows: all that any rule reads.
pub record Says (c : Course) (s : Standing) (m : Sendings) : Type 0 where
  pub reversed : ℕ
  pub standing_is : s ≡ stands_with c reversed s.acknowledged
  pub answered : is_some s.acknowledged ≡ is_answered c.progress.confirm
  pub sendings_are : m ≡ sendings_of c

-- nothing was sent
abbrev pub unsent : Sendings
unsent = record { returned = None; confirmed = None; confirmations = 0 }

-- The row is one of a transaction that has just opened: it stands as the rules make it stand, and nothing was sent of it that may be sent again.
pub record Opens (c : Course) : Type 0 where
  pub kept : IsRow c
  pub opens : (S : Setup) (room : ℕ) (psp : Text) → opens_for S c.opening.terms.txn room false (Event.Heard psp (Said.Pay c.opening.terms)) c.opening.at ≡ Some c.opening
      → Says c (advance S c.opening.terms.txn room false unopened (Event.Heard psp (Said.Pay c.opening.terms)) c.opening.at) unsent

-- payer and payee are in the setup
pub record IsInside (S : Setup) (o : Opening) : Type 0 where
  pub payer_known : is_some (account_at S o.terms.payer) ≡ true
  pub payee_known : is_some (account_at S o.terms.payee) ≡ true

-- what an event makes of a transaction that stands so, and of which this was sent: the reply, the messages, and how it stands then
pub record IsTurn (S : Setup) (c : Course) (e : Event) (now : ℕ) (turn : Turn) (room : ℕ) (says : Answers) (s : Standing) (m : Sendings) : Type 0 where
  pub replies : turn.reply ≡ reply_by S room says (is_due_on false s m now) false s e now
  pub sends : turn.sent ≡ sent_between S (is_due_on false s m now) s (advance S c.opening.terms.txn room false s e now) e
  pub stands_then : Says (after c turn.progress) (advance S c.opening.terms.txn room false s e now) (sending c.opening.terms.txn m now turn.sent)

-- Before a Close: what an event makes of a row, for all that its transaction may stand for, whatever its shard has opened and the banks say.
pub record Turns (S : Setup) (c : Course) (e : Event) (now : ℕ) (turn : Turn) : Type 0 where
  pub kept : IsRow (after c turn.progress)
  -- each message is about the transaction
  pub about : AllByRecursion (λ (s : Sent). body_txn s.body ≡ c.opening.terms.txn) turn.sent
  pub each : (room : ℕ) (says : Answers) (s : Standing) (m : Sendings) → IsInside S c.opening → Says c s m → IsTurn S c e now turn room says s m
