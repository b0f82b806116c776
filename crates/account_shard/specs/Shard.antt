-- What a contract sees of a shard of accounts: what it stands for, and what is planned of an order.
use Rattle.std.specs.Prelude.{ℕ, ◌≡◌, ◌≤◌, ◌<◌, ◌^◌, ◌==◌, Bool, false, ◌&&◌, if◌then◌else◌, List, Option, Some, None, IsSome, is_some, length}
use Rattle.std.specs.Option.{option_map}
use Rattle.upi_base.specs.declared.limits.TheConstants.{MAX_AMOUNT}
use Rattle.upi_base.specs.Lists.{when}
use Rattle.upi_base.specs.Setup.{account_named}
use Rattle.upi_base.specs.Shards.{account_shard}
use Rattle.upi_words.specs.Prelude.{Leg, Answer, AccountRef, Account, SetupLine, Reply, Call, Sent, Order, Setup, History, is_posted, balance}
use Rattle.upi_model.specs.Accounts.{order_of, kept_balance, kept}
use Rattle.upi_model.specs.History.{read_message}
use Rattle.upi_model.specs.Local.{local_reply, local_sent}
use Rattle.upi_model.specs.Own.{Deed}
use Rattle.upi_model.specs.Replies.{reply_to}
use Rattle.upi_model.specs.Sending.{bank_answer, sent_by}
use Rattle.bank_book.specs.Book.{Holdings, holding_of}
use Rattle.leg_post.specs.Posts.{Ledger, says, is_first, legs_with, book_with, opening, IsPosted}

-- the account of a name, where the setup has it in this shard
abbrev pub shard_account : Setup → ℕ → AccountRef → Option Account
shard_account S s ac = if s == account_shard ac then account_named S ac else None

-- The shard is that of this number over the setup, and what it posted are these orders, the latest first: its legs are those that they leave,
-- its accounts are the setup's in this shard, and no others, and each has what it opened with and what the legs moved.
pub record Stands (S : Setup) (s : ℕ) (orders : List Order) (p : Ledger) : Type 0 where
  pub posted : IsPosted S orders p
  pub accounts_are : (ac : AccountRef) → is_some (holding_of p.book ac) ≡ is_some (shard_account S s ac)

-- each account is the setup's in this shard, and has what it opens with there, and there are no others
abbrev pub IsBookOf : Setup → ℕ → Holdings → Type 0
IsBookOf S s b = (ac : AccountRef) → holding_of b ac ≡ option_map opening (shard_account S s ac)

-- what an account has after these orders, where it is in this shard
abbrev pub balance_after : Setup → ℕ → List Order → AccountRef → Option ℕ
balance_after S s orders ac = option_map (kept_balance (kept S orders)) (shard_account S s ac)

-- what an account has by a history, where it is in this shard
abbrev pub balance_at : Setup → ℕ → History → AccountRef → Option ℕ
balance_at S s h ac = option_map (λ (a : Account). balance S a h) (shard_account S s ac)

-- what an order would move now, if it moves anything
abbrev pub moved_on : Ledger → Order → Option ℕ
moved_on p o = when (is_first p.legs o && is_posted (says p o)) o.amount

-- an order can be posted: its account is there, its amount is within an order's, and there are not too many legs
pub record CanPost (p : Ledger) (o : Order) : Type 0 where
  pub there : IsSome (holding_of p.book o.ac)
  pub small : o.amount ≤ MAX_AMOUNT
  pub few : length p.legs < 2 ^ 31

-- what is planned of an order: how the bank answers it, what that moves, and the reply and the messages of its Deliver
pub record Plan : Type 0 where
  pub order : Order
  pub answer : Answer
  pub moved : Option (Leg × ℕ)
  pub reply : Reply
  pub sent : List Sent

-- the shard is as it was where this was planned: it would answer and move the same, and there is room
pub record IsPlanned (p : Ledger) (x : Plan) : Type 0 where
  pub said : Some x.answer ≡ says p x.order
  pub moves : x.moved ≡ option_map (λ (n : ℕ). (x.order.its_leg, n)) (moved_on p x.order)
  pub fits : CanPost p x.order
  pub room : 0 < p.spare

-- a step answers an order as its bank does: its reply is the answer, and its message takes that to the switch
pub record IsAnswer (m : Sent) (x : Plan) : Type 0 where
  pub order_is : order_of m.body ≡ Some x.order
  pub replies : x.reply ≡ Reply.Leg x.answer
  pub sends : x.sent ≡ bank_answer m.to m.ver x.order.txn x.order.its_leg (Some x.answer)

-- the postings after an order: its leg is kept and its amount moved, where it is the first for its leg
pub record IsAfter (old : Ledger) (o : Order) (new : Ledger) : Type 0 where
  pub legs_are : (a : Answer) → Some a ≡ says old o → new.legs ≡ legs_with old.legs o a
  pub book_is : (a : Answer) → Some a ≡ says old o → new.book ≡ book_with old.legs old.book o a

-- the line of a setup that gives an account
abbrev pub line_of : Account → SetupLine
line_of a = SetupLine.Account a.ac a.opening a.no_debit a.no_credit

-- the line gives an account of this shard
abbrev pub is_in : ℕ → SetupLine → Bool
is_in s (SetupLine.Account ac opening no_debit no_credit) = s == account_shard ac
is_in s _ = false

-- the reply and the messages are the owner's to the delivery of this message, by its own entries
pub record IsLocalPlan (S : Setup) (mine : List Deed) (m : Sent) (now : ℕ) (x : Plan) : Type 0 where
  pub replies : x.reply ≡ local_reply S mine (read_message (Some m)) (Some m) now
  pub sends : x.sent ≡ local_sent S mine (read_message (Some m)) (Some m) now

-- the reply and the messages are those of the definitions to the delivery of message n after a history
pub record IsPlanOf (S : Setup) (h : History) (n now : ℕ) (x : Plan) : Type 0 where
  pub replies : x.reply ≡ reply_to S h (Call.Deliver n) now
  pub sends : x.sent ≡ sent_by S h (Call.Deliver n) now
