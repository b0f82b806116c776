-- Storms: what is lost, and what is delivered once more, changes nothing. The laws.
use Rattle.std.specs.Prelude.{ℕ, ◌≡◌, ◌==◌, Bool, true, false, ◌&&◌, is_some, ◌∷◌, Option, Some, None}
use Rattle.std.specs.List.{list_any}
use Rattle.upi_words.specs.Prelude.{Setup, History, Text, Entry, Call, Sent, Body, Leg, Account, Event, is_closed, event_of, opened, outcome_of, balance, flight, Legal}
use Rattle.upi_model.specs.History.{message_at}
use Rattle.upi_model.specs.Postings.{answer, moved}
use Rattle.upi_model.specs.Dues.{due}
use Rattle.upi_model.specs.Standing.{standing}
use Rattle.upi_laws.specs.LegLaws.{has_ended}

-- the call delivers message n
abbrev pub delivers : ℕ → Call → Bool
delivers n (Call.Deliver m) = m == n
delivers n _ = false

-- message n was delivered
abbrev pub was_delivered : History → ℕ → Bool
was_delivered h n = list_any (λ (e : Entry). delivers n e.call) h

-- the body is an order for a leg, or a bank's answer to one
abbrev pub is_of_leg : Body → Bool
is_of_leg (Body.Order t l amount ac addr extra) = true
is_of_leg (Body.LegAnswer t l a) = true
is_of_leg _ = false

-- the message is an order for a leg, or a bank's answer to one
abbrev pub carries_leg : Option Sent → Bool
carries_leg None = false
carries_leg (Some s) = is_of_leg s.body

-- the call loses a message, or delivers an order or a bank's answer that was delivered before
abbrev pub is_storm : History → Call → Bool
is_storm h (Call.Lose n) = true
is_storm h (Call.Deliver n) = was_delivered h n && carries_leg (message_at h n)
is_storm h _ = false

-- What the event would bring has come already: an order for a leg that was answered, or a bank's answer for a leg that has ended.
-- What is lost, or only told, brings nothing.
abbrev pub IsSpent : Setup → History → Event → Type 0
IsSpent S h Event.Lost = Unit {0}
IsSpent S h Event.Told = Unit {0}
IsSpent S h (Event.Ordered t l) = is_some (answer S h t l) ≡ true
IsSpent S h (Event.Answered t l a) = has_ended S h t l ≡ true
IsSpent S h _ = ⊥

-- the entry leaves every transaction, every account and the money in flight as they were
pub record NothingMoves (S : Setup) (e : Entry) (h : History) : Type 0 where
  pub outcomes_same : (t : Text) → outcome_of S t (e ∷ h) ≡ outcome_of S t h
  pub dues_same : (t : Text) → due S t (e ∷ h) ≡ due S t h
  pub moved_same : (t : Text) (l : Leg) → moved S (e ∷ h) t l ≡ moved S h t l
  pub balances_same : (a : Account) → balance S a (e ∷ h) ≡ balance S a h
  pub flight_same : flight S (e ∷ h) ≡ flight S h
  -- and all that decides them: what is opened, how transactions stand, how legs were answered
  pub opened_same : opened S (e ∷ h) ≡ opened S h
  pub standings_same : (t : Text) → standing S t (e ∷ h) ≡ standing S t h
  pub answers_same : (t : Text) (l : Leg) → answer S (e ∷ h) t l ≡ answer S h t l

-- losses and repeats in legal histories
pub record StormLaws : Type 0 where
  -- an accepted loss, or a second delivery of an order or of a bank's answer, at the end of a legal history without a Close, changes nothing
  pub storms_pass : (S : Setup) (e : Entry) (h : History) → Legal S (e ∷ h) → is_closed h ≡ false → is_storm h e.call ≡ true → NothingMoves S e h
  -- nor does any accepted entry whose event has come already, by whatever message it came
  pub spent_pass : (S : Setup) (e : Entry) (h : History) → Legal S (e ∷ h) → is_closed h ≡ false → IsSpent S h (event_of h e.call) → NothingMoves S e h
