-- How one transaction stands at the switch, as one value, and what one more event makes of it.
use Rattle.std.specs.Prelude.{ℕ, ◌≡◌, ◌+◌, Bool, ◌&&◌, if◌then◌else◌, List, ◌∷◌, Option, None, is_some, is_none}
use Rattle.std.specs.Option.{option_or}
use Rattle.std.specs.List.{list_any, count_by}
use Rattle.std.specs.Str.{bytes_eq}
use Rattle.upi_model.specs.Types.{Entry, Sent, Leg, Code, Outcome, Said, Event, Opening, Decision, LegEnd, Setup, History, Text}
use Rattle.upi_base.specs.Lists.{when}
use Rattle.upi_base.specs.Shards.{txn_shard}
use Rattle.upi_model.specs.History.{sent, is_closed, event_of}
use Rattle.upi_model.specs.Places.{in_shard, refusal_at, opened, opening, decides, decision, ends, due_debit, debit, due_credit, credit, cause_by, reverses, reversal}
use Rattle.upi_model.specs.Outcomes.{outcome_by}
use Rattle.upi_model.specs.Dues.{orders, confirms, last_sent, acknowledges, acknowledged, due_by, due_confirm, passed}

-- how a transaction stands at the switch
pub record Standing : Type 0 where
  pub opening : Option Opening
  pub decision : Option Decision
  pub debit_end : Option LegEnd
  pub credit_end : Option LegEnd
  pub reversal_end : Option ℕ
  pub acknowledged : Option ℕ

-- what was sent of a transaction that may be sent again: when its reversal was last ordered, when its outcome last confirmed, and how often
pub record Sendings : Type 0 where
  pub returned : Option ℕ
  pub confirmed : Option ℕ
  pub confirmations : ℕ

-- how a transaction stands in a history: each by the first entry that fits
abbrev pub standing : Setup → Text → History → Standing
standing S t h = record {
  opening = opening S t h;
  decision = decision S t h;
  debit_end = debit S t h;
  credit_end = credit S t h;
  reversal_end = reversal S t h;
  acknowledged = acknowledged S t h;
}

-- what was sent of a transaction in a history: when, by the last entry that sent it
abbrev pub sendings : Text → History → Sendings
sendings t h = record {
  returned = last_sent (orders t Leg.Reversal) h;
  confirmed = last_sent (confirms t) h;
  confirmations = count_by (confirms t) (sent h);
}

-- how many transactions the shard of this one has opened
abbrev pub shard_opened : Setup → Text → History → ℕ
shard_opened S t h = count_by (in_shard (txn_shard t)) (opened S h)

-- why a reversal is wanted, if one is
abbrev pub cause_on : Standing → Option Code
cause_on s = cause_by s.debit_end s.credit_end

-- the outcome, if there is one
abbrev pub outcome_on : Standing → Option Outcome
outcome_on s = outcome_by s.opening s.decision s.debit_end s.credit_end (is_some s.reversal_end)

-- when the transaction is due, if it is; never after a Close
abbrev pub due_on : Bool → Standing → Sendings → Option ℕ
due_on closed s m =
    if closed then None
    else due_by s.opening (outcome_on s) s.decision s.debit_end (cause_on s) m.returned (due_confirm m.confirmations m.confirmed s.acknowledged)

-- the transaction is due at a moment
abbrev pub is_due_on : Bool → Standing → Sendings → ℕ → Bool
is_due_on closed s m now = passed now (due_on closed s m)

-- the opening that a PSP's words bring to a transaction, where its shard has opened so many
abbrev pub opens_by : Setup → Text → ℕ → Text → Said → ℕ → Option Opening
opens_by S t room p (Said.Pay r) now = when (bytes_eq r.txn t && is_none (refusal_at S room p r)) (record { terms = r; at = now })
opens_by S t room p _ now = None

-- the opening that an event brings to a transaction; after a Close there is none
abbrev pub opens_for : Setup → Text → ℕ → Bool → Event → ℕ → Option Opening
opens_for S t room closed (Event.Heard p what) now = if closed then None else opens_by S t room p what now
opens_for S t room closed _ now = None

-- how a transaction stands after one more event
abbrev pub advance : Setup → Text → ℕ → Bool → Standing → Event → ℕ → Standing
advance S t room closed s e now = record {
  opening = option_or s.opening (opens_for S t room closed e now);
  decision = option_or s.decision (decides S closed s.opening e now);
  debit_end = option_or s.debit_end (ends t Leg.Debit closed (due_debit s.decision) e now);
  credit_end = option_or s.credit_end (ends t Leg.Credit closed (due_credit s.debit_end) e now);
  reversal_end = option_or s.reversal_end (reverses t closed (cause_on s) e now);
  acknowledged = option_or s.acknowledged (acknowledges s.opening (outcome_on s) e now);
}

-- what was sent of a transaction after an entry that sent these messages
abbrev pub sending : Text → Sendings → ℕ → List Sent → Sendings
sending t m now messages = record {
  returned = option_or (when (list_any (orders t Leg.Reversal) messages) now) m.returned;
  confirmed = option_or (when (list_any (confirms t) messages) now) m.confirmed;
  confirmations = m.confirmations + count_by (confirms t) messages;
}

-- how a transaction stands with one more entry follows from how it stood
pub record StandOn (S : Setup) (t : Text) (e : Entry) (h : History) : Type 0 where
  pub standing_on : standing S t (e ∷ h) ≡ advance S t (shard_opened S t h) (is_closed h) (standing S t h) (event_of h e.call) e.at
  pub sendings_on : sendings t (e ∷ h) ≡ sending t (sendings t h) e.at e.sent
