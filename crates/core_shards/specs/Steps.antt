-- What is planned of a call, and when a call can be planned.
use Rattle.std.specs.Prelude.{ℕ, ◌≡◌, ◌<◌, List, [], Option, Some, None}
use Rattle.upi_words.specs.Prelude.{Call, Order, Reply, Sent, Setup, History}
use Rattle.upi_model.specs.Accounts.{order_of}
use Rattle.upi_model.specs.Replies.{reply_to}
use Rattle.upi_model.specs.Sending.{sent_by}
use Rattle.leg_post.specs.Posts.{Ledger}
use Rattle.account_shard.specs.Shard.{IsAnswer, Plan}
use Rattle.bank_shards.specs.Banks.{CanPostIn, CanTake, IsPlannedIn as IsBankStep}
use Rattle.txn_row.specs.Rows.{Course}
use Rattle.txn_shard.specs.Rows.{Shard}
use Rattle.txn_shards.specs.Txns.{MakesIn, IsPlannedIn as IsTxnStep, all_return, rows_all}
use Rattle.core_shards.specs.Tables.{Tables}
use Rattle.core_shards.specs.declared.step.{Step.Step}

-- the reply of a step
abbrev pub reply_of : Step → Reply
reply_of (Step.Txn x) = x.plan.reply
reply_of (Step.Leg x) = x.reply

-- the messages that it sends
abbrev pub sent_of : Step → List Sent
sent_of (Step.Txn x) = x.plan.sent
sent_of (Step.Leg x) = x.sent

-- the step without its messages
abbrev pub without_sent : Step → Step
without_sent (Step.Txn x) = Step.Txn (record { place = x.place; plan = record { reply = x.plan.reply; sent = []; change = x.plan.change } })
without_sent (Step.Leg x) = Step.Leg (record { order = x.order; answer = x.answer; moved = x.moved; reply = x.reply; sent = [] })

-- an order, if it is one, can be posted
abbrev pub CanOrder : List Ledger → Option Order → Type 0
CanOrder ps None = Unit {0}
CanOrder ps (Some o) = CanPostIn ps o

-- a call can be planned with its message: it is no Close, it has the message that it names, and an order can be posted
abbrev pub CanPlan : List Ledger → Call → Option Sent → Type 0
CanPlan ps (Call.Hear psp input) m = Unit {0}
CanPlan ps (Call.Late txn) m = Unit {0}
CanPlan ps (Call.Deliver n) (Some m) = CanOrder ps (order_of m.body)
CanPlan ps (Call.Lose n) (Some m) = Unit {0}
CanPlan ps (Call.Deliver n) None = ⊥
CanPlan ps (Call.Lose n) None = ⊥
CanPlan ps Call.Close m = ⊥

-- the shard of a step is as it was where this was planned
abbrev pub IsPlannedAt : List Shard → List Ledger → Step → Type 0
IsPlannedAt xs ps (Step.Txn x) = IsTxnStep xs x
IsPlannedAt xs ps (Step.Leg x) = IsBankStep ps x

-- the tables are as they were where this was planned: the step's shard is, and there is room for one name
pub record IsStep (v : Tables) (x : Step) : Type 0 where
  pub planned : IsPlannedAt v.txns v.banks x
  pub room : 0 < v.opened.spare

-- an order's plan answers the message that a call delivers
pub record IsLegOf (c : Call) (m : Option Sent) (x : Plan) : Type 0 where
  pub n : ℕ
  pub message : Sent
  pub call : c ≡ Call.Deliver n
  pub has : m ≡ Some message
  pub answers : IsAnswer message x

-- the step is of this call with this message, over these lines and rows
abbrev pub IsMadeOf : Setup → List (List Course) → Call → Option Sent → ℕ → Step → Type 0
IsMadeOf S rss c m now (Step.Txn x) = MakesIn S rss c m now x
IsMadeOf S rss c m now (Step.Leg x) = IsLegOf c m x

-- the step is of this call with this message, over these tables
abbrev pub IsStepOf : Tables → Call → Option Sent → ℕ → Step → Type 0
IsStepOf v c m now x = IsMadeOf v.lines (rows_all v.txns) c m now x

-- the reply and the messages are those of the definitions to a call after a history
pub record IsDefined (S : Setup) (h : History) (c : Call) (now : ℕ) (x : Step) : Type 0 where
  pub replies : reply_of x ≡ reply_to S h c now
  pub sends : sent_of x ≡ sent_by S h c now

-- these are the reversals that a Close makes arrive, and they can arrive
pub record CanClose (v : Tables) (ms : List Sent) : Type 0 where
  pub returns : ms ≡ all_return v.lines (rows_all v.txns)
  pub can : CanTake v.banks ms
