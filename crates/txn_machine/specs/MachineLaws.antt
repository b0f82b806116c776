-- What changes nothing of a machine's transaction, and that the rules leave a machine one way to follow them.
use Rattle.std.specs.Prelude.{ℕ, ◌≡◌, Bool, true, false, ◌&&◌, Some}
use Rattle.std.specs.Option.{option_or}
use Rattle.std.specs.Str.{bytes_eq}
use Rattle.upi_words.specs.Prelude.{Account, Event, Said}
use Rattle.upi_base.specs.Setup.{account_at}
use Rattle.upi_model.specs.Places.{asked, accounts_agree}
use Rattle.upi_model.specs.Dues.{acknowledges}
use Rattle.upi_model.specs.Standing.{outcome_on, advance}
use Rattle.txn_machine.specs.declared.moves.{Move.Move}
use Rattle.txn_machine.specs.declared.machine.{Machine.Machine}
use Rattle.txn_machine.specs.Stands.{Transaction, stands}
use Rattle.txn_machine.specs.Follows.{Follows, IsOver}

-- the event is one that a machine hears of: an answer of its asked PSP, with no account that differs from the setup's, a bank's answer, a Late, or a Close
abbrev pub concerns : Transaction → Event → Bool
concerns x (Event.Heard p (Said.Auth a)) = bytes_eq a.txn x.opening.terms.txn && bytes_eq p (asked x.opening.terms) && accounts_agree x.setup x.opening.terms a
concerns x (Event.Heard p what) = false
concerns x Event.Unread = false
concerns x (Event.Ordered t l) = false
concerns x (Event.Answered t l a) = bytes_eq t x.opening.terms.txn
concerns x Event.Told = false
concerns x Event.Lost = false
concerns x (Event.Late t) = bytes_eq t x.opening.terms.txn
concerns x Event.Close = true

-- the transaction after an event that at most acknowledges its outcome
abbrev pub heard_of : Machine → Transaction → Event → ℕ → Transaction
heard_of m x e now = record x { acknowledged = option_or x.acknowledged (acknowledges (Some x.opening) (outcome_on (stands m x)) e now) }

-- two machines, each with its move, follow the rules at one event, of a transaction whose payer and payee are in the setup
pub record BothFollow (old new other : Machine) (move moved : Move) (x : Transaction) (e : Event) (now : ℕ) : Type 0 where
  pub payer : Account
  pub payer_is : account_at x.setup x.opening.terms.payer ≡ Some payer
  pub payee : Account
  pub payee_is : account_at x.setup x.opening.terms.payee ≡ Some payee
  pub one : Follows old new move x e now
  pub another : Follows old other moved x e now

pub record MachineLaws : Type 0 where
  -- an event of which a machine doesn't hear leaves its transaction as it stands: at most the outcome is acknowledged
  pub others : (m : Machine) (x : Transaction) (e : Event) (now : ℕ) → concerns x e ≡ false
      → advance x.setup x.opening.terms.txn x.room false (stands m x) e now ≡ stands m (heard_of m x e now)
  -- so does every event after a Close
  pub closed : (m : Machine) (x : Transaction) (e : Event) (now : ℕ)
      → advance x.setup x.opening.terms.txn x.room true (stands m x) e now ≡ stands m (heard_of m x e now)
  -- and so does every event before a Close of a transaction that has its outcome
  pub over : (m : Machine) (x : Transaction) (e : Event) (now : ℕ) → IsOver m x
      → advance x.setup x.opening.terms.txn x.room false (stands m x) e now ≡ stands m (heard_of m x e now)
  -- they are one machine: an event leaves one stage that follows the rules
  pub one_machine : (old new other : Machine) (move moved : Move) (x : Transaction) (e : Event) (now : ℕ) → BothFollow old new other move moved x e now → new ≡ other
  -- they are one move: one reply follows the rules, and one thing that is wanted
  pub one_move : (old new other : Machine) (move moved : Move) (x : Transaction) (e : Event) (now : ℕ) → BothFollow old new other move moved x e now → move ≡ moved
