-- What an owner replies and sends, by its own entries alone.
use Rattle.std.specs.Prelude.{ℕ, ◌≡◌, false, List, [], ◌∷◌, Option, Some, None}
use Rattle.std.specs.List.{count_by}
use Rattle.upi_model.specs.Types.{Call, Sent, Leg, Answer, Reply, Event, Owner, Order, Kept, Setup, History, Text}
use Rattle.upi_base.specs.Shards.{txn_shard}
use Rattle.upi_model.specs.Places.{in_shard}
use Rattle.upi_model.specs.Postings.{Answers}
use Rattle.upi_model.specs.Standing.{Sendings, advance, sending, is_due_on}
use Rattle.upi_model.specs.Replies.{txn_of, reply_by, reply_to}
use Rattle.upi_model.specs.Sending.{sends_by, sent_by}
use Rattle.upi_model.specs.Owners.{message_of}
use Rattle.upi_model.specs.Own.{event_with, delivered_with, Deed, own_deeds, own_opened, own_standing}
use Rattle.upi_model.specs.Accounts.{order_in, own_orders, kept_says, kept}

-- what was sent of a transaction, by its shard's own entries
abbrev pub own_sendings : Text → List Deed → Sendings
own_sendings t [] = record { returned = None; confirmed = None; confirmations = 0 }
own_sendings t (x ∷ before) = sending t (own_sendings t before) x.at x.sent

-- how many transactions the shard of this one has opened
abbrev pub own_room : Setup → Text → List Deed → ℕ
own_room S t mine = count_by (in_shard (txn_shard t)) (own_opened S mine)

-- what a bank says to the order that is delivered, if one is
abbrev pub order_says : Setup → List Kept → Option Order → Option Answer
order_says S ks None = None
order_says S ks (Some o) = kept_says S ks o

-- what banks say: to the order that the message is, by the table of the orders before
abbrev pub own_says : Setup → List Deed → Option Sent → Answers
own_says S mine m t l = order_says S (kept S (own_orders mine)) (order_in m)

-- what an owner replies to an event, with the message that is delivered, at a moment
abbrev pub local_reply : Setup → List Deed → Event → Option Sent → ℕ → Reply
local_reply S mine e m now =
    let t = txn_of e in
    reply_by S (own_room S t mine) (own_says S mine m) (is_due_on false (own_standing S t mine) (own_sendings t mine) now) false (own_standing S t mine) e now

-- what an owner sends on an event, with the message that is delivered, at a moment
abbrev pub local_sent : Setup → List Deed → Event → Option Sent → ℕ → List Sent
local_sent S mine e m now =
    let t = txn_of e in
    sends_by S (own_says S mine m) (is_due_on false (own_standing S t mine) (own_sendings t mine) now) m false (own_standing S t mine) (advance S t (own_room S t mine) false (own_standing S t mine) e now) e

-- What stands for an owner's entries of a history: for a shard of transactions all that it reads of them, for a shard of accounts their orders.
-- Callers, replies and the numbers of messages don't matter, and to a shard of accounts no moment does.
abbrev pub StandsFor : Owner → List Deed → History → Type 0
StandsFor (Owner.Txns s) mine h = mine ≡ own_deeds (Owner.Txns s) h
StandsFor (Owner.Accounts s) mine h = own_orders mine ≡ own_orders (own_deeds (Owner.Accounts s) h)

-- the reply to a call and the messages that it sends are what its owner replies and sends, by what stands for its own entries
pub record IsLocal (S : Setup) (h : History) (c : Call) (now : ℕ) (mine : List Deed) : Type 0 where
  pub replies : reply_to S h c now ≡ local_reply S mine (event_with (message_of h c) c) (delivered_with (message_of h c) c) now
  pub sends : sent_by S h c now ≡ local_sent S mine (event_with (message_of h c) c) (delivered_with (message_of h c) c) now

-- to an order its bank replies by the orders alone: neither their moments nor its own matter
pub record IsByOrders (S : Setup) (mine theirs : List Deed) (t : Text) (l : Leg) (m : Option Sent) (now later : ℕ) : Type 0 where
  pub reply_same : local_reply S mine (Event.Ordered t l) m now ≡ local_reply S theirs (Event.Ordered t l) m later
  pub sent_same : local_sent S mine (Event.Ordered t l) m now ≡ local_sent S theirs (Event.Ordered t l) m later
