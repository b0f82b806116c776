-- What a contract sees of the sixteen shards of accounts: for which orders they stand, and what they can post.
use Rattle.std.specs.Prelude.{ℕ, ◌≡◌, ◌+◌, ◌≤◌, ◌^◌, ◌==◌, true, if◌then◌else◌, List, [], ◌∷◌, Option, Some, None, IsSomeAnd, is_some, length, slice_get}
use Rattle.std.specs.Option.{option_and_then}
use Rattle.std.specs.List.{AllByRecursion}
use Rattle.upi_base.specs.declared.limits.TheConstants.{MAX_AMOUNT}
use Rattle.upi_base.specs.Setup.{account_named}
use Rattle.upi_base.specs.Shards.{account_shard}
use Rattle.upi_words.specs.Prelude.{AccountRef, Answer, Leg, Order, Sent, Setup, Text}
use Rattle.upi_model.specs.Accounts.{kept, kept_answer, order_of}
use Rattle.bank_book.specs.declared.Holding.{Holding}
use Rattle.bank_book.specs.Book.{holding_of}
use Rattle.leg_post.specs.Posts.{Ledger}
use Rattle.account_shard.specs.Shard.{Stands, CanPost, IsPlanned, Plan, balance_after}

-- the ledger of the shard that an account is in
abbrev pub ledger_of : List Ledger → AccountRef → Option Ledger
ledger_of ps ac = slice_get ps (account_shard ac)

-- what an account holds, in its shard
abbrev pub holding_in : List Ledger → AccountRef → Option Holding
holding_in ps ac = option_and_then (λ (p : Ledger). holding_of p.book ac) (ledger_of ps ac)

-- There are sixteen shards, and each is that of its number over the setup, after the orders that it has had, the latest first.
pub record StandAll (S : Setup) (orders : ℕ → List Order) (ps : List Ledger) : Type 0 where
  pub sixteen : length ps ≡ 16
  pub each : (s : ℕ) (p : Ledger) → slice_get ps s ≡ Some p → Stands S s (orders s) p

-- the orders of each shard, with one more at the shard of its account
abbrev pub with_order : Order → (ℕ → List Order) → ℕ → List Order
with_order o orders s = if s == account_shard o.ac then o ∷ orders s else orders s

-- the orders of each shard, with one more, if there is one
abbrev pub with_one : Option Order → (ℕ → List Order) → ℕ → List Order
with_one None orders s = orders s
with_one (Some o) orders s = with_order o orders s

-- an order can be posted at the shard of its account
abbrev pub CanPostIn : List Ledger → Order → Type 0
CanPostIn ps o = IsSomeAnd (ledger_of ps o.ac) (λ (p : Ledger). CanPost p o)

-- the shard of the order's account is as it was where this was planned
abbrev pub IsPlannedIn : List Ledger → Plan → Type 0
IsPlannedIn ps x = IsSomeAnd (ledger_of ps x.order.ac) (λ (p : Ledger). IsPlanned p x)

-- a shard has no leg yet
abbrev pub HasNoLeg : Ledger → Type 0
HasNoLeg p = p.legs ≡ []

-- a shard has no leg and no account yet
abbrev pub IsFresh : Ledger → Type 0
IsFresh p = (p.legs ≡ []) × (p.book ≡ [])

-- each shard has room for so many legs more
abbrev pub HasRoom : ℕ → List Ledger → Type 0
HasRoom n ps = AllByRecursion (λ (p : Ledger). n ≤ p.spare) ps

-- the message is an order at an account of the setup, of an amount within an order's
abbrev pub IsTaken : Setup → Sent → Type 0
IsTaken S m = IsSomeAnd (order_of m.body) (λ (o : Order). (is_some (account_named S o.ac) ≡ true) × (o.amount ≤ MAX_AMOUNT))

-- These messages can arrive, one after the other: the shards stand over a setup that has their accounts, have not too many orders, and have
-- room for them.
pub record CanTake (ps : List Ledger) (ms : List Sent) : Type 0 where
  pub setup : Setup
  pub orders : ℕ → List Order
  pub stand : StandAll setup orders ps
  pub each : AllByRecursion (IsTaken setup) ms
  pub few : (s : ℕ) → length (orders s) + length ms ≤ 2 ^ 31
  pub room : HasRoom (length ms) ps

-- the orders of each shard after these messages came, the first of them first
abbrev pub with_messages : List Sent → (ℕ → List Order) → ℕ → List Order
with_messages [] orders = orders
with_messages (m ∷ ms) orders = with_messages ms (with_one (order_of m.body) orders)

-- a ledger, but for its room
abbrev pub without_room : Ledger → Ledger
without_room p = record { legs = p.legs; book = p.book; spare = 0 }

-- what an account has after these orders, at the shard that it is in
abbrev pub balance_all : Setup → (ℕ → List Order) → AccountRef → Option ℕ
balance_all S orders ac = balance_after S (account_shard ac) (orders (account_shard ac)) ac

-- how a leg of a transaction was answered after these orders, at the shard of an account
abbrev pub answer_all : Setup → (ℕ → List Order) → AccountRef → Text → Leg → Option Answer
answer_all S orders ac t l = kept_answer (kept S (orders (account_shard ac))) t l
