-- To which shard an entry belongs.
use Rattle.std.specs.Prelude.{◌==◌, Bool, false, not, ◌&&◌, if◌then◌else◌, List, [], ◌∷◌, Option, Some, None}
use Rattle.upi_model.specs.Types.{Entry, Call, Sent, Body, Input, Message, Owner, History, Text}
use Rattle.upi_base.specs.Shards.{txn_shard, account_shard}
use Rattle.upi_model.specs.History.{message_at, is_closed}

-- the transaction that a sent message is about
abbrev pub body_txn : Body → Text
body_txn (Body.ReqAuth q) = q.txn
body_txn (Body.RespAuth t amount word) = t
body_txn (Body.Order t l amount ac addr extra) = t
body_txn (Body.LegAnswer t l a) = t
body_txn (Body.Result t kind x req_msg) = t
body_txn (Body.Confirm t kind x) = t
body_txn (Body.Confirmed t) = t

-- an order that is delivered belongs to its account's shard, any other message to its transaction's
abbrev pub body_owner : Body → Owner
body_owner (Body.Order t l amount ac addr extra) = Owner.Accounts (account_shard ac)
body_owner b = Owner.Txns (txn_shard (body_txn b))

-- a message of a PSP belongs to its transaction's shard, and to shard 0 where it names none
abbrev pub message_owner : Message → Owner
message_owner (Message.Pay r) = Owner.Txns (txn_shard r.txn)
message_owner (Message.AuthAnswer a) = Owner.Txns (txn_shard a.txn)
message_owner (Message.Check c) = Owner.Txns (txn_shard c.txn)
message_owner (Message.Confirmed c) = Owner.Txns (txn_shard c.txn)
message_owner (Message.Foreign api head) = Owner.Txns 0

-- a Hear belongs to the shard of its message, and to shard 0 where it can't be read
abbrev pub input_owner : Input → Owner
input_owner (Input.Good m) = message_owner m
input_owner (Input.Bad b) = Owner.Txns 0

-- a Deliver belongs to the shard of its message, and to shard 0 where there is none
abbrev pub delivered_owner : Option Sent → Owner
delivered_owner None = Owner.Txns 0
delivered_owner (Some s) = body_owner s.body

-- a Lose belongs to the shard of its message's transaction, an order's too, and to shard 0 where there is none
abbrev pub lost_owner : Option Sent → Owner
lost_owner None = Owner.Txns 0
lost_owner (Some s) = Owner.Txns (txn_shard (body_txn s.body))

-- The owner of a call: a call without a transaction counts as that of shard 0 of the transactions. A Close is for every shard, and `own` leaves it out.
abbrev pub owner_of : History → Call → Owner
owner_of h (Call.Hear p what) = input_owner what
owner_of h (Call.Deliver n) = delivered_owner (message_at h n)
owner_of h (Call.Lose n) = lost_owner (message_at h n)
owner_of h (Call.Late t) = Owner.Txns (txn_shard t)
owner_of h Call.Close = Owner.Txns 0

-- both are one shard of transactions, or one of accounts
abbrev pub same_owner : Owner → Owner → Bool
same_owner (Owner.Txns a) (Owner.Txns b) = a == b
same_owner (Owner.Accounts a) (Owner.Accounts b) = a == b
same_owner _ _ = false

-- the message that a call is about
abbrev pub message_of : History → Call → Option Sent
message_of h (Call.Deliver n) = message_at h n
message_of h (Call.Lose n) = message_at h n
message_of h _ = None

-- an entry, with the message that it delivers or loses
pub record OwnEntry : Type 0 where
  pub entry : Entry
  pub message : Option Sent

-- an entry after h is before the Close, and an owner's
abbrev pub is_own : Owner → History → Entry → Bool
is_own o h e = not (is_closed (e ∷ h)) && same_owner o (owner_of h e.call)

-- an owner's entries before the Close, the newest first
abbrev pub own : Owner → History → List OwnEntry
own o [] = []
own o (e ∷ h) = if is_own o h e then record { entry = e; message = message_of h e.call } ∷ own o h else own o h
