-- A shard of accounts by its own entries: the legs that were ordered of it, how each was answered, and what each account has.
use Rattle.std.specs.Prelude.{ℕ, ◌+◌, ◌-◌, ◌≡◌, ◌≤◌, ◌==◌, Bool, false, ◌&&◌, if◌then◌else◌, List, [], ◌∷◌, Option, Some, None, is_some, is_none}
use Rattle.std.specs.Option.{option_or, option_map}
use Rattle.std.specs.List.{sum_by}
use Rattle.std.specs.Str.{bytes_eq}
use Rattle.upi_model.specs.Types.{Sent, Body, Leg, Answer, AccountRef, Account, Opening, Order, Kept, Owner, Setup, History, Text}
use Rattle.upi_base.specs.Lists.{when, pick, joined}
use Rattle.upi_base.specs.Setup.{same_account, account_named, account_at}
use Rattle.upi_base.specs.Shards.{account_shard}
use Rattle.upi_model.specs.History.{message_at}
use Rattle.upi_model.specs.Places.{same_leg, opening}
use Rattle.upi_model.specs.Postings.{Answers, is_posted, posted_at, balance_from, post_at, answer, balance}
use Rattle.upi_model.specs.Own.{Deed, own_deeds}

-- the order that a body is
abbrev pub order_of : Body → Option Order
order_of (Body.Order t l amount ac addr extra) = Some (record { txn = t; its_leg = l; amount = amount; ac = ac })
order_of _ = None

-- the order that a message is
abbrev pub order_in : Option Sent → Option Order
order_in None = None
order_in (Some s) = order_of s.body

-- the list with one more in front, if there is one
abbrev pub more : {X : Type 0} → Option X → List X → List X
more None xs = xs
more (Some x) xs = x ∷ xs

-- the orders that were delivered, the latest first
abbrev pub own_orders : List Deed → List Order
own_orders [] = []
own_orders (x ∷ before) = more (order_in x.message) (own_orders before)

-- it is this leg of this transaction
abbrev pub is_kept : Text → Leg → Kept → Bool
is_kept t l k = bytes_eq k.order.txn t && same_leg k.order.its_leg l

-- the answer, where it is that of this leg of this transaction
abbrev pub kept_at : Text → Leg → Kept → Option Answer
kept_at t l k = when (is_kept t l k) k.answer

-- how each leg was answered
abbrev pub kept_answer : List Kept → Answers
kept_answer ks t l = pick (kept_at t l) ks

-- what it moved at an account, by this leg
abbrev pub kept_share : AccountRef → Leg → Kept → ℕ
kept_share ac l k = if same_leg k.order.its_leg l && (same_account k.order.ac ac && is_posted (Some k.answer)) then k.order.amount else 0

-- what one leg moved at an account
abbrev pub kept_total : List Kept → AccountRef → Leg → ℕ
kept_total ks ac l = sum_by (kept_share ac l) ks

-- what an account has
abbrev pub kept_balance : List Kept → Account → ℕ
kept_balance ks a = balance_from a.opening (kept_total ks a.ac)

-- how the bank answers an order whose leg it hasn't answered, at the account that the order names
abbrev pub kept_post : Setup → List Kept → Order → Option Answer
kept_post S ks o = post_at (kept_answer ks) (kept_balance ks) o.txn o.amount o.its_leg (account_named S o.ac)

-- what the bank says to an order: as the leg was answered before, or as it would be posted now
abbrev pub kept_says : Setup → List Kept → Order → Option Answer
kept_says S ks o = option_or (kept_answer ks o.txn o.its_leg) (kept_post S ks o)

-- what an order adds: only the first for a leg is kept
abbrev pub keeps : Setup → List Kept → Order → Option Kept
keeps S ks o = if is_some (kept_answer ks o.txn o.its_leg) then None else option_map (λ (a : Answer). record { order = o; answer = a }) (kept_post S ks o)

-- what an order moves at an account: its amount, where it is the first for its leg, is posted, and names the account
abbrev pub kept_move : Setup → List Kept → Order → AccountRef → ℕ
kept_move S ks o ac = if is_none (kept_answer ks o.txn o.its_leg) then (if same_account o.ac ac && is_posted (kept_post S ks o) then o.amount else 0) else 0

-- a balance after a leg moved so much: a debit takes it, a credit and a reversal give it
abbrev pub moved_by : Leg → ℕ → ℕ → ℕ
moved_by Leg.Debit n b = b - n
moved_by Leg.Credit n b = b + n
moved_by Leg.Reversal n b = b + n

-- the table of the shard, by the orders that were delivered: the first order stands first
abbrev pub kept : Setup → List Order → List Kept
kept S [] = []
kept S (o ∷ before) = joined (kept S before) (keeps S (kept S before) o)

-- the table of the shard, by its own entries
abbrev pub own_kept : Setup → List Deed → List Kept
own_kept S xs = kept S (own_orders xs)

-- the account is the shard's
abbrev pub is_at : ℕ → Option Account → Bool
is_at s None = false
is_at s (Some a) = s == account_shard a.ac

-- the leg is posted at an account of the shard
abbrev pub at_shard : Setup → ℕ → Leg → Option Opening → Bool
at_shard S s l None = false
at_shard S s l (Some o) = is_at s (account_at S (posted_at l o.terms))

-- before a Close a shard's own entries say how its legs were answered, and what its accounts have
pub record AccountsSay (S : Setup) (s : ℕ) (h : History) : Type 0 where
  -- it keeps the answers of the legs that are posted at its accounts, and no others
  pub answers_are : (t : Text) (l : Leg) → kept_answer (own_kept S (own_deeds (Owner.Accounts s) h)) t l ≡ (if at_shard S s l (opening S t h) then answer S h t l else None)
  pub balances_are : (a : Account) → account_shard a.ac ≡ s → kept_balance (own_kept S (own_deeds (Owner.Accounts s) h)) a ≡ balance S a h
  -- so it has the answer of each leg of which an order to it was sent
  pub ordered_are : (n : ℕ) (m : Sent) (o : Order) → message_at h n ≡ Some m → order_of m.body ≡ Some o → account_shard o.ac ≡ s
      → kept_answer (own_kept S (own_deeds (Owner.Accounts s) h)) o.txn o.its_leg ≡ answer S h o.txn o.its_leg

-- a running balance does for an account of the setup: each order takes or gives what it moves, and takes no more than is there
pub record MovesOne (S : Setup) (orders : List Order) (o : Order) (a : Account) : Type 0 where
  pub balance_runs : kept_balance (kept S (o ∷ orders)) a ≡ moved_by o.its_leg (kept_move S (kept S orders) o a.ac) (kept_balance (kept S orders) a)
  pub taken_is_there : o.its_leg ≡ Leg.Debit → kept_move S (kept S orders) o a.ac ≤ kept_balance (kept S orders) a
