-- What an event makes of a machine: what the rules of the model make of the transaction for which it stands.
use Rattle.std.specs.Prelude.{ℕ, ◌≡◌, Bool, true, false, ◌||◌, List, [], Option, Some, None, is_some}
use Rattle.std.specs.Str.{bytes_eq}
use Rattle.upi_words.specs.Prelude.{Kind, Leg, Answer, Outcome, PayReq, Sent, Account, AuthWord, Said, Event, Setup, Text}
use Rattle.upi_base.specs.Setup.{account_at}
use Rattle.upi_model.specs.Places.{asked, accounts_agree, minutes}
use Rattle.upi_model.specs.Replies.{reply_by}
use Rattle.upi_model.specs.Sending.{order, outcome_messages, sent_between}
use Rattle.upi_model.specs.Standing.{outcome_on, due_on, is_due_on, opens_for, advance, sending}
use Rattle.upi_model.specs.Happenings.{unopened}
use Rattle.upi_base.specs.declared.code.Phase.{Phase}
use Rattle.txn_machine.specs.declared.stage.{Stage.Stage}
use Rattle.txn_machine.specs.declared.moves.{Move.Move, Wants.Wants}
use Rattle.txn_machine.specs.declared.machine.{Machine.Machine}
use Rattle.txn_machine.specs.Stands.{Transaction, IsOf, stands, sendings_of, returned_of, phase_on}

-- the transaction opens at a moment with this kind and amount, and as a COLLECT with these minutes
pub record OpensAs (x : Transaction) (kind : Kind) (amount now its_minutes : ℕ) : Type 0 where
  pub kind_is : x.opening.terms.kind ≡ kind
  pub amount_is : x.opening.terms.amount ≡ amount
  pub at_is : x.opening.at ≡ now
  pub minutes_are : kind ≡ Kind.Collect → minutes x.opening.terms ≡ its_minutes

-- what a machine is of which the transaction opens
pub record IsBegun (m : Machine) (x : Transaction) (now : ℕ) : Type 0 where
  -- it is a machine of the transaction
  pub of : IsOf m x
  -- the transaction stands as the rules make it stand that open it
  pub opens : (psp : Text) → opens_for x.setup x.opening.terms.txn x.room false (Event.Heard psp (Said.Pay x.opening.terms)) now ≡ Some x.opening
      → advance x.setup x.opening.terms.txn x.room false unopened (Event.Heard psp (Said.Pay x.opening.terms)) now ≡ stands m (record x { acknowledged = None })

-- it is a machine of each transaction that opens so
abbrev pub Begins : Machine → Kind → ℕ → ℕ → ℕ → Type 0
Begins m kind amount now its_minutes = (x : Transaction) → OpensAs x kind amount now its_minutes → IsBegun m x now

-- the messages that are wanted of a payment with this outcome
abbrev pub messages : Setup → PayReq → Option Outcome → Wants → List Sent
messages S r x Wants.Nothing = []
messages S r x Wants.Debit = order S r Leg.Debit
messages S r x Wants.Credit = order S r Leg.Credit
messages S r x Wants.Reversal = order S r Leg.Reversal
messages S r x Wants.Outcome = outcome_messages r x

-- the moment at which the reversal has ended, if it has after an event: where it had before, it stays
abbrev pub reversed_then : Stage → ℕ → ℕ → ℕ
reversed_then (Stage.DebitReturned approved returned) at now = at
reversed_then (Stage.CreditReturned approved debited code returned) at now = at
reversed_then _ at now = now

-- the transaction after an event
abbrev pub onward : Machine → Transaction → ℕ → Transaction
onward m x now = record x { reversed = reversed_then m.stage x.reversed now }

-- the transaction is due, its confirmations aside
abbrev pub is_due : Machine → Transaction → ℕ → Bool
is_due m x now = is_due_on false (stands m x) (sendings_of m) now

-- the messages that the rules send at an event between two machines of a transaction
abbrev pub sent_then : Machine → Machine → Transaction → Event → ℕ → List Sent
sent_then old new x e now = sent_between x.setup (is_due old x now) (stands old x) (stands new (onward old x now)) e

-- the transaction has its outcome
abbrev pub IsOver : Machine → Transaction → Type 0
IsOver m x = is_some (outcome_on (stands m x)) ≡ true

-- it is the outcome that is wanted
abbrev pub is_told : Wants → Bool
is_told Wants.Outcome = true
is_told _ = false

-- Whatever transaction it is: it has its outcome after an event where it had it before, or where the outcome is wanted.
-- So an outcome that comes is told, and one that is wanted has come.
abbrev pub Tells : Machine → Machine → Move → Type 0
Tells old new move = (x : Transaction) → is_some (outcome_on (stands new x)) ≡ (is_some (outcome_on (stands old x)) || is_told move.wants)

-- Before a Close: what an event makes of the machine of a transaction, and what is replied and sent.
pub record Follows (old new : Machine) (move : Move) (x : Transaction) (e : Event) (now : ℕ) : Type 0 where
  -- it is a machine of the same transaction
  pub same : IsOf new x
  -- the transaction stands as the rules make it stand
  pub steps : advance x.setup x.opening.terms.txn x.room false (stands old x) e now ≡ stands new (onward old x now)
  -- the reply is that of the rules
  pub replies : move.reply ≡ reply_by x.setup x.room x.says (is_due old x now) false (stands old x) e now
  -- the messages that are wanted are those that the rules send
  pub sends : messages x.setup x.opening.terms (outcome_on (stands new (onward old x now))) move.wants ≡ sent_then old new x e now
  -- the outcome is wanted only of a transaction that has one, so that it is never said in place of no message
  pub told : move.wants ≡ Wants.Outcome → IsOver new (onward old x now)
  -- a reversal that was ordered was last ordered when the rules last sent its order, for a payer who is in the setup
  pub returned : (a : Account) → account_at x.setup x.opening.terms.payer ≡ Some a
      → (sending x.opening.terms.txn (sendings_of old) now (sent_then old new x e now)).returned ≡ returned_of new.stage

-- the asked PSP answers to the transaction, with no account that differs from the setup's
pub record IsAnswer (x : Transaction) (psp : Text) (a : AuthWord) : Type 0 where
  pub txn : bytes_eq a.txn x.opening.terms.txn ≡ true
  pub asked_psp : bytes_eq psp (asked x.opening.terms) ≡ true
  pub accounts : accounts_agree x.setup x.opening.terms a ≡ true

-- the asked PSP answers with a yes or a no to an amount
abbrev pub HearsAuth : Machine → Machine → Move → ℕ → Bool → ℕ → Type 0
HearsAuth old new move amount word now = (x : Transaction) (psp : Text) (a : AuthWord) → IsOf old x → IsAnswer x psp a → a.amount ≡ amount → a.yes ≡ word
    → Follows old new move x (Event.Heard psp (Said.Auth a)) now

-- a bank answers to a leg
abbrev pub HearsLeg : Machine → Machine → Move → Leg → Answer → ℕ → Type 0
HearsLeg old new move leg answer now = (x : Transaction) → IsOf old x → Follows old new move x (Event.Answered x.opening.terms.txn leg answer) now

-- it is looked whether the transaction is due
abbrev pub Lates : Machine → Machine → Move → ℕ → Type 0
Lates old new move now = (x : Transaction) → IsOf old x → Follows old new move x (Event.Late x.opening.terms.txn) now

-- the switch closes, at whatever moment
abbrev pub Closes : Machine → Machine → Move → Type 0
Closes old new move = (x : Transaction) (now : ℕ) → IsOf old x → Follows old new move x Event.Close now

-- whatever transaction the machine is of has its outcome
abbrev pub IsEnded : Machine → Type 0
IsEnded m = (x : Transaction) → IsOf m x → IsOver m x

-- it is the outcome of the transaction
abbrev pub HasOutcome : Machine → Option Outcome → Type 0
HasOutcome m outcome = (x : Transaction) → IsOf m x → outcome ≡ outcome_on (stands m x)

-- it is the due moment of the transaction before a Close, its confirmations aside
abbrev pub HasDue : Machine → Option ℕ → Type 0
HasDue m due = (x : Transaction) → IsOf m x → due ≡ due_on false (stands m x) (sendings_of m)

-- it is what is awaited of the transaction
abbrev pub HasPhase : Machine → Phase → Type 0
HasPhase m phase = (x : Transaction) → IsOf m x → phase ≡ phase_on (stands m x)
