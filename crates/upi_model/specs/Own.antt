-- A shard of transactions by its own entries: how each of its transactions stands, and what it has opened.
use Rattle.std.specs.Prelude.{ℕ, ◌≡◌, false, List, [], ◌∷◌, Option, None}
use Rattle.std.specs.List.{filter, count_by}
use Rattle.upi_model.specs.Types.{Call, Sent, Event, Opening, Owner, Setup, History, Text}
use Rattle.upi_base.specs.Lists.{joined, pick}
use Rattle.upi_base.specs.Shards.{txn_shard}
use Rattle.upi_model.specs.History.{heard_from, read_message}
use Rattle.upi_model.specs.Places.{in_shard, opens, opened, if_of}
use Rattle.upi_model.specs.Owners.{OwnEntry, own}
use Rattle.upi_model.specs.Standing.{Standing, standing, advance}
use Rattle.upi_model.specs.Happenings.{unopened}

-- what a call brings, read with the message that it delivers
abbrev pub event_with : Option Sent → Call → Event
event_with m (Call.Hear p what) = heard_from p what
event_with m (Call.Deliver n) = read_message m
event_with m (Call.Lose n) = Event.Lost
event_with m (Call.Late t) = Event.Late t
event_with m Call.Close = Event.Close

-- the message that a call delivers
abbrev pub delivered_with : Option Sent → Call → Option Sent
delivered_with m (Call.Deliver n) = m
delivered_with m _ = None

-- what an own entry is to its owner: neither its caller, nor its reply, nor the number of its message
pub record Deed : Type 0 where
  pub what : Event
  pub message : Option Sent
  pub at : ℕ
  pub sent : List Sent

-- an own entry, as its owner reads it
abbrev pub deed_of : OwnEntry → Deed
deed_of x = record { what = event_with x.message x.entry.call; message = delivered_with x.message x.entry.call; at = x.entry.at; sent = x.entry.sent }

-- own entries, as their owner reads them
abbrev pub deeds : List OwnEntry → List Deed
deeds [] = []
deeds (x ∷ before) = deed_of x ∷ deeds before

-- an owner's entries before the Close, the newest first, as it reads them
abbrev pub own_deeds : Owner → History → List Deed
own_deeds o h = deeds (own o h)

-- what a shard has opened, by its own entries
abbrev pub own_opened : Setup → List Deed → List Opening
own_opened S [] = []
own_opened S (x ∷ before) = joined (own_opened S before) (opens S (own_opened S before) false x.what x.at)

-- how a transaction stands, by its shard's own entries
abbrev pub own_standing : Setup → Text → List Deed → Standing
own_standing S t [] = unopened
own_standing S t (x ∷ before) =
    advance S t (count_by (in_shard (txn_shard t)) (own_opened S before)) false (own_standing S t before) x.what x.at

-- before a Close a shard's own entries say what it has opened, and how each of its transactions stands
pub record OwnSay (S : Setup) (t : Text) (h : History) : Type 0 where
  pub own_opened_is : own_opened S (own_deeds (Owner.Txns (txn_shard t)) h) ≡ filter (in_shard (txn_shard t)) (opened S h)
  pub own_standing_is : own_standing S t (own_deeds (Owner.Txns (txn_shard t)) h) ≡ standing S t h

-- A list with one row an opened transaction does: the name finds the opening of the standing, and what wasn't opened stands as at first.
pub record RowsDo (S : Setup) (t : Text) (mine : List Deed) : Type 0 where
  pub opening_found : pick (if_of t) (own_opened S mine) ≡ (own_standing S t mine).opening
  pub unopened_is : pick (if_of t) (own_opened S mine) ≡ None → own_standing S t mine ≡ unopened
