-- What a shard of transactions stands for, and what is planned of a call.
use Rattle.std.specs.Prelude.{ℕ, ◌≡◌, ◌<◌, true, false, List, [], ◌∷◌, ◌++◌, Option, Some, None}
use Rattle.std.specs.List.{AllByRecursion}
use Rattle.upi_base.specs.Shards.{txn_shard}
use Rattle.upi_base.specs.declared.entry.{ShardCall.ShardCall}
use Rattle.upi_words.specs.Prelude.{Reply, Sent, Event, Call, Owner, Setup, History, Text}
use Rattle.upi_model.specs.Happenings.{unopened}
use Rattle.upi_model.specs.History.{heard_from, read_message}
use Rattle.upi_model.specs.Local.{own_sendings, local_reply, local_sent}
use Rattle.upi_model.specs.Own.{Deed, own_opened, own_standing}
use Rattle.upi_model.specs.Owners.{input_owner, delivered_owner, lost_owner}
use Rattle.upi_model.specs.Replies.{reply_to}
use Rattle.upi_model.specs.Sending.{sent_by}
use Rattle.upi_model.specs.Standing.{Standing, Sendings}
use Rattle.upi_model.specs.Structure.{AreApart}
use Rattle.txn_row.specs.Rows.{Course, Says, IsInside, IsRow, after, unsent}
use Rattle.txn_shard.specs.declared.step.{Change.Change}
use Rattle.txn_shard.specs.Rows.{Shard, openings, row_at, turned}

-- a transaction stands as its row says; without a row it wasn't opened, and nothing was sent of it
abbrev pub RowSays : Option Course → Standing → Sendings → Type 0
RowSays None s m = (s ≡ unopened) × (m ≡ unsent)
RowSays (Some c) s m = Says c s m

-- a row belongs here: its transaction is the shard's, and its payer and payee are in the setup
pub record IsHere (S : Setup) (s : ℕ) (c : Course) : Type 0 where
  pub its_shard : txn_shard c.opening.terms.txn ≡ s
  pub inside : IsInside S c.opening

-- The shard is that of this number over the setup, and its own entries are these, the latest first: it has a row of each transaction that
-- they open, in their order, and each transaction stands as its row says.
pub record Stands (S : Setup) (s : ℕ) (mine : List Deed) (rows : List Course) : Type 0 where
  pub opened_are : openings rows ≡ own_opened S mine
  pub says : (t : Text) → RowSays (row_at rows t) (own_standing S t mine) (own_sendings t mine)
  pub here : AllByRecursion (IsHere S s) rows
  -- no two rows have one name
  pub apart : AreApart (openings rows)

-- what is planned of a call: its reply, its messages, and the change of the rows
pub record Plan : Type 0 where
  pub reply : Reply
  pub sent : List Sent
  pub change : Change

-- the name of the transaction that a change opens, if it opens one
abbrev pub opened_by : Change → Option Text
opened_by Change.Still = None
opened_by (Change.Opens c) = Some c.opening.terms.txn
opened_by (Change.Goes t p) = None

-- the rows after a change
abbrev pub rows_after : List Course → Change → List Course
rows_after rows Change.Still = rows
rows_after rows (Change.Opens c) = rows ++ c ∷ []
rows_after rows (Change.Goes t p) = turned t p rows

-- the row of the transaction is there, and is one with that progress too
abbrev pub CanGo : Option Course → Change → Type 0
CanGo (Some c) (Change.Goes t p) = IsRow (after c p)
CanGo None (Change.Goes t p) = ⊥
CanGo r _ = Unit {0}

-- the change can be made of these rows, with so much room: a name that opens is new, one that goes on is there
abbrev pub IsReady : List Course → ℕ → Change → Type 0
IsReady rows spare Change.Still = Unit {0}
IsReady rows spare (Change.Opens c) = (row_at rows c.opening.terms.txn ≡ None) × (0 < spare)
IsReady rows spare (Change.Goes t p) = CanGo (row_at rows t) (Change.Goes t p) × (0 < spare)

-- the shard is as it was where this was planned: the change can be made
abbrev pub IsPlanned : Shard → Plan → Type 0
IsPlanned x p = IsReady x.rows x.spare p.change

-- the reply and the messages are the owner's to the event, with the message that is delivered, by its own entries
pub record IsLocalPlan (S : Setup) (mine : List Deed) (e : Event) (m : Option Sent) (now : ℕ) (p : Plan) : Type 0 where
  pub replies : p.reply ≡ local_reply S mine e m now
  pub sends : p.sent ≡ local_sent S mine e m now

-- the entry of an event, as its owner reads it: it sends what the owner sends
abbrev pub deed_now : Setup → List Deed → Event → Option Sent → ℕ → Deed
deed_now S mine e m now = record { what = e; message = m; at = now; sent = local_sent S mine e m now }

-- What a plan makes of an event, by the entries for which the rows stand: the owner's reply and messages, and rows that stand for these
-- entries and the event's.
pub record Makes (S : Setup) (s : ℕ) (mine : List Deed) (rows : List Course) (e : Event) (m : Option Sent) (now : ℕ) (p : Plan) : Type 0 where
  pub local : IsLocalPlan S mine e m now p
  pub stands : Stands S s (deed_now S mine e m now ∷ mine) (rows_after rows p.change)

-- Whatever these rows stand for in the shard, the plan makes this of the event.
abbrev pub MakesAll : Setup → ℕ → List Course → Event → Option Sent → ℕ → Plan → Type 0
MakesAll S s rows e m now p = (mine : List Deed) → Stands S s mine rows → Makes S s mine rows e m now p

-- what a call on a shard brings: what a Hear, a Deliver, a Lose or a Late of its message brings
abbrev pub event_in : ShardCall → Event
event_in (ShardCall.Hear psp input) = heard_from psp input
event_in (ShardCall.Deliver m) = read_message (Some m)
event_in (ShardCall.Lose m) = Event.Lost
event_in (ShardCall.Late t) = Event.Late t

-- the message that a call on a shard delivers
abbrev pub delivered_in : ShardCall → Option Sent
delivered_in (ShardCall.Deliver m) = Some m
delivered_in _ = None

-- whose a call on a shard is
abbrev pub owner_in : ShardCall → Owner
owner_in (ShardCall.Hear psp input) = input_owner input
owner_in (ShardCall.Deliver m) = delivered_owner (Some m)
owner_in (ShardCall.Lose m) = lost_owner (Some m)
owner_in (ShardCall.Late t) = Owner.Txns (txn_shard t)

-- the reply and the messages are those of the definitions to a call after a history
pub record IsPlanOf (S : Setup) (h : History) (c : Call) (now : ℕ) (p : Plan) : Type 0 where
  pub replies : p.reply ≡ reply_to S h c now
  pub sends : p.sent ≡ sent_by S h c now
