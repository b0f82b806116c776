-- A transaction by the events of it alone: a machine that goes from event to event, and that needs no others.
use Rattle.std.specs.Prelude.{ℕ, Bool, true, false, List, [], ◌∷◌, None}
use Rattle.std.specs.Str.{bytes_eq}
use Rattle.upi_model.specs.Types.{Said, Event, Setup, History, Text}
use Rattle.upi_model.specs.History.{is_closed, event_of}
use Rattle.upi_model.specs.Standing.{Standing, shard_opened, advance}

-- what happens to a transaction: an event, its moment, how many its shard has opened before, and whether there was a Close before
pub record Happening : Type 0 where
  pub what : Event
  pub at : ℕ
  pub room : ℕ
  pub closed : Bool

-- what happens in a history, the latest first
abbrev pub happenings : Setup → Text → History → List Happening
happenings S t [] = []
happenings S t (e ∷ before) = record { what = event_of before e.call; at = e.at; room = shard_opened S t before; closed = is_closed before } ∷ happenings S t before

-- how every transaction stands at first
abbrev pub unopened : Standing
unopened = record { opening = None; decision = None; debit_end = None; credit_end = None; reversal_end = None; acknowledged = None }

-- how a transaction stands after what happened, from event to event
abbrev pub played : Setup → Text → List Happening → Standing
played S t [] = unopened
played S t (x ∷ before) = advance S t x.room x.closed (played S t before) x.what x.at

-- the words of a PSP that may change how the transaction stands
abbrev pub says_to : Text → Said → Bool
says_to t (Said.Pay r) = bytes_eq r.txn t
says_to t (Said.Auth a) = bytes_eq a.txn t
says_to t (Said.Check u) = false
says_to t (Said.Confirmed u) = bytes_eq u t
says_to t Said.Foreign = false

-- the events that may change how the transaction stands; a close may change them all
abbrev pub touches : Text → Event → Bool
touches t (Event.Heard p what) = says_to t what
touches t Event.Unread = false
touches t (Event.Ordered u l) = false
touches t (Event.Answered u l a) = bytes_eq u t
touches t Event.Told = false
touches t Event.Lost = false
touches t (Event.Late u) = bytes_eq u t
touches t Event.Close = true
