-- When a transaction is due.
use Rattle.std.specs.Prelude.{ℕ, ◌+◌, nat_lt, nat_le, Bool, false, ◌&&◌, if◌then◌else◌, Option, Some, None, is_none}
use Rattle.std.specs.Option.{option_map}
use Rattle.std.specs.List.{list_any, count_by}
use Rattle.std.specs.Str.{bytes_eq}
use Rattle.upi_model.specs.Types.{Entry, Sent, Body, Leg, Code, Outcome, Said, Event, Opening, Decision, LegEnd, Setup, History, Text}
use Rattle.upi_base.specs.declared.limits.TheConstants.{DUE_SECONDS, MAX_CONFIRMATIONS}
use Rattle.upi_base.specs.Lists.{when}
use Rattle.upi_model.specs.History.{first, last, sent, is_closed}
use Rattle.upi_model.specs.Places.{same_leg, asked, opening, decision, debit, credit, cause_by, due_answer, due_debit, due_credit}
use Rattle.upi_model.specs.Outcomes.{outcome_of}

-- an order of the transaction for the leg
abbrev pub orders : Text → Leg → Sent → Bool
orders t l s = orders_in t l s.body
  where
    orders_in : Text → Leg → Body → Bool
    orders_in t l (Body.Order u m amount ac addr extra) = bytes_eq u t && same_leg m l
    orders_in t l _ = false

-- a confirmation of the transaction
abbrev pub confirms : Text → Sent → Bool
confirms t s = confirms_in t s.body
  where
    confirms_in : Text → Body → Bool
    confirms_in t (Body.Confirm u kind outcome) = bytes_eq u t
    confirms_in t _ = false

-- the moment of the entry, where it sent such a message
abbrev pub sends : (Sent → Bool) → Entry → Option ℕ
sends fits e = when (list_any fits e.sent) e.at

-- the moment of the last entry that sent such a message
abbrev pub last_sent : (Sent → Bool) → History → Option ℕ
last_sent fits h = last (sends fits) h

-- the asked PSP says that it was told
abbrev pub acknowledges_said : Opening → Text → Said → Bool
acknowledges_said o p (Said.Confirmed t) = bytes_eq t o.terms.txn && bytes_eq p (asked o.terms)
acknowledges_said o p _ = false

-- the switch hears from the asked PSP that it was told
abbrev pub acknowledges_on : Opening → Event → Bool
acknowledges_on o (Event.Heard p what) = acknowledges_said o p what
acknowledges_on o _ = false

-- the moment at which an event acknowledges an outcome that stands, also after a Close
abbrev pub acknowledges : Option Opening → Option Outcome → Event → ℕ → Option ℕ
acknowledges None x e now = None
acknowledges (Some o) None e now = None
acknowledges (Some o) (Some x) e now = when (acknowledges_on o e) now

-- when the asked PSP acknowledged the outcome
abbrev pub acknowledged : Setup → Text → History → Option ℕ
acknowledged S t h = first (λ before e now. acknowledges (opening S t before) (outcome_of S t before) e now) h

-- the seconds of a due moment after a moment, if there is one
abbrev pub due_after : Option ℕ → Option ℕ
due_after at = option_map (λ (k : ℕ). k + DUE_SECONDS) at

-- a confirmation is sent again 30 seconds after the last, as long as fewer than four were sent and none was acknowledged
abbrev pub due_confirm : ℕ → Option ℕ → Option ℕ → Option ℕ
due_confirm count last acknowledged = if nat_lt count MAX_CONFIRMATIONS && is_none acknowledged then due_after last else None

-- after the decision: when the debit, the credit or the reversal that is awaited is due
abbrev pub due_leg : Option Decision → Option LegEnd → Option Code → Option ℕ → Option ℕ
due_leg a d (Some why) returned = due_after returned
due_leg a None None returned = due_debit a
due_leg a (Some d) None returned = due_credit (Some d)

-- before the outcome: when the answer is due, or what is awaited after it
abbrev pub due_open : Opening → Option Decision → Option LegEnd → Option Code → Option ℕ → Option ℕ
due_open o None d why returned = Some (due_answer o)
due_open o (Some a) d why returned = due_leg (Some a) d why returned

-- without an opening never; after the outcome when CONFIRM is due again; else when what is awaited is due
abbrev pub due_by : Option Opening → Option Outcome → Option Decision → Option LegEnd → Option Code → Option ℕ → Option ℕ → Option ℕ
due_by None x a d why returned confirmed = None
due_by (Some o) (Some x) a d why returned confirmed = confirmed
due_by (Some o) None a d why returned confirmed = due_open o a d why returned

-- when the transaction is due, if it is
abbrev pub due : Setup → Text → History → Option ℕ
due S t h =
    if is_closed h then None
    else due_by (opening S t h) (outcome_of S t h) (decision S t h) (debit S t h) (cause_by (debit S t h) (credit S t h)) (last_sent (orders t Leg.Reversal) h)
    (due_confirm (count_by (confirms t) (sent h)) (last_sent (confirms t) h) (acknowledged S t h))

-- there is a due moment, and it is not after now
abbrev pub passed : ℕ → Option ℕ → Bool
passed now None = false
passed now (Some k) = nat_le k now

-- the transaction is due at this moment: its due moment is not after it
abbrev pub is_due : Setup → Text → History → ℕ → Bool
is_due S t h now = passed now (due S t h)
