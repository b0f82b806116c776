-- A history is a list of entries, the latest first: the list after an entry is the prefix before it.
use Rattle.std.specs.Prelude.{ℕ, ◌+◌, ◌-◌, ◌==◌, Bool, true, false, cond, List, [], ◌∷◌, ◌++◌, Option, Some, None, length, reverse, slice_get}
use Rattle.std.specs.Option.{option_or}
use Rattle.std.specs.List.{list_any}
use Rattle.upi_model.specs.Types.{Entry, Call, Input, Message, Sent, Party, Body, Reply, Said, Event, History, Text}

-- the messages that were sent, in order
abbrev pub sent : History → List Sent
sent [] = []
sent (e ∷ before) = sent before ++ e.sent

-- how many messages were sent
abbrev pub sent_count : History → ℕ
sent_count [] = 0
sent_count (e ∷ before) = sent_count before + length e.sent

-- the history of these entries, whose latest stands last
abbrev pub past : List Entry → History
past entries = reverse entries

-- message n of a list, counted from 1
abbrev pub numbered : List Sent → ℕ → Option Sent
numbered messages n = cond (n == 0) None (slice_get messages (n - 1))

-- message n of those that were sent
abbrev pub message_at : History → ℕ → Option Sent
message_at h n = numbered (sent h) n

-- the call is a Close
abbrev pub is_close : Call → Bool
is_close Call.Close = true
is_close _ = false

-- there is a Close
abbrev pub is_closed : History → Bool
is_closed h = list_any (λ (e : Entry). is_close e.call) h

-- what a message says of a payment; its head doesn't matter
abbrev pub said_in : Message → Said
said_in (Message.Pay r) = Said.Pay r
said_in (Message.AuthAnswer a) = Said.Auth (record { txn = a.txn; yes = a.yes; amount = a.amount; payer_ac = a.payer_ac; payee_ac = a.payee_ac })
said_in (Message.Check c) = Said.Check c.txn
said_in (Message.Confirmed c) = Said.Confirmed c.txn
said_in (Message.Foreign api head) = Said.Foreign

-- what a Hear brings: what the PSP says, or that it can't be read
abbrev pub heard_from : Text → Input → Event
heard_from p (Input.Good m) = Event.Heard p (said_in m)
heard_from p (Input.Bad b) = Event.Unread

-- the switch hears an answer of a model PSP as it hears the PSP
abbrev pub said_by : Party → Said → Event
said_by (Party.Psp p) what = Event.Heard p what
said_by (Party.Bank b) what = Event.Told
said_by Party.Switch what = Event.Told

-- what the delivery of a message brings, by its body; its sender matters only for the two answers of a model PSP
abbrev pub delivered : Party → Body → Event
delivered from (Body.RespAuth txn amount word) = said_by from (Said.Auth (record { txn = txn; yes = word; amount = amount; payer_ac = None; payee_ac = None }))
delivered from (Body.Confirmed txn) = said_by from (Said.Confirmed txn)
delivered from (Body.Order txn leg amount ac addr extra) = Event.Ordered txn leg
delivered from (Body.LegAnswer txn leg answer) = Event.Answered txn leg answer
delivered from (Body.ReqAuth question) = Event.Told
delivered from (Body.Result txn kind outcome req_msg) = Event.Told
delivered from (Body.Confirm txn kind outcome) = Event.Told

-- what a Deliver brings; one of a message that was never sent counts as told
abbrev pub read_message : Option Sent → Event
read_message None = Event.Told
read_message (Some s) = delivered s.from s.body

-- what a call brings, read with the message that it delivers
abbrev pub event_of : History → Call → Event
event_of h (Call.Hear p what) = heard_from p what
event_of h (Call.Deliver n) = read_message (message_at h n)
event_of h (Call.Lose n) = Event.Lost
event_of h (Call.Late t) = Event.Late t
event_of h Call.Close = Event.Close

-- What the first entry that fits gives. What fits reads of an entry: the prefix before it, what its call brings, and its moment.
abbrev pub first : {X : Type 0} → (History → Event → ℕ → Option X) → History → Option X
first fits [] = None
first fits (e ∷ before) = option_or (first fits before) (fits before (event_of before e.call) e.at)

-- what the last entry that fits gives
abbrev pub last : {X : Type 0} → (Entry → Option X) → History → Option X
last fits [] = None
last fits (e ∷ before) = option_or (fits e) (last fits before)

-- the history with a further call at a moment; nothing that is decided reads the rest of the entry
abbrev pub put : History → Call → ℕ → History
put h c now = record { call = c; at = now; caller = 0; reply = Reply.Told; sent = [] } ∷ h
