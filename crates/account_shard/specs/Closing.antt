-- What a Close makes arrive at a shard of accounts.
use Rattle.std.specs.Prelude.{◌≡◌, ◌==◌, Bool, false, ◌||◌, List, [], ◌∷◌, ◌++◌, ℕ, zero, suc, Option, Some, None}
use Rattle.std.specs.List.{AllByRecursion, flat_map}
use Rattle.std.specs.Str.{bytes_eq}
use Rattle.upi_base.specs.Lists.{when}
use Rattle.upi_base.specs.Setup.{account_at}
use Rattle.upi_base.specs.Shards.{account_shard}
use Rattle.upi_words.specs.Prelude.{Account, Leg, Opening, Order, Owner, Sent, Setup, History, Text, opening}
use Rattle.upi_model.specs.Accounts.{more, order_of}
use Rattle.upi_model.specs.AtClose.{at_close}
use Rattle.upi_model.specs.Own.{own_deeds}
use Rattle.upi_model.specs.Postings.{reversal_due}

-- an order of the transaction is among these
abbrev pub is_returned : List Order → Text → Bool
is_returned [] t = false
is_returned (o ∷ rs) t = bytes_eq o.txn t || is_returned rs t

-- an order to return the debit of a transaction that was opened, at its payer's account, which is the shard's
pub record IsReturn (S : Setup) (s : ℕ) (h : History) (o : Order) : Type 0 where
  pub q : Opening
  pub begun : opening S o.txn h ≡ Some q
  pub a : Account
  pub held : account_at S q.terms.payer ≡ Some a
  pub its_leg_is : o.its_leg ≡ Leg.Reversal
  pub its_amount : o.amount ≡ q.terms.amount
  pub its_account : o.ac ≡ a.ac
  pub its_shard : account_shard o.ac ≡ s

-- These orders are what a Close makes arrive at the shard's accounts: each is a reversal of its transaction,
-- and of the transactions with a payer there it has exactly those whose reversal is due.
pub record AreReturns (S : Setup) (s : ℕ) (h : History) (rs : List Order) : Type 0 where
  pub each : AllByRecursion (IsReturn S s h) rs
  pub which : (t : Text) (q : Opening) (a : Account) → opening S t h ≡ Some q → account_at S q.terms.payer ≡ Some a → account_shard a.ac ≡ s → is_returned rs t ≡ reversal_due S t h

-- the order of a message, where it names an account of the shard
abbrev pub order_here : ℕ → Option Order → Option Order
order_here s None = None
order_here s (Some o) = when (s == account_shard o.ac) o

-- the orders of these messages at accounts of the shard
abbrev pub orders_at : ℕ → List Sent → List Order
orders_at s [] = []
orders_at s (m ∷ before) = more (order_here s (order_of m.body)) (orders_at s before)

-- the numbers below n
abbrev pub numbers_to : ℕ → List ℕ
numbers_to zero = []
numbers_to (suc n) = numbers_to n ++ n ∷ []

-- the reversals that a Close would make arrive, of the first n shards of transactions: one shard's after the other's
abbrev pub all_returns : ℕ → Setup → History → List Sent
all_returns n S h = flat_map (λ (k : ℕ). at_close S (own_deeds (Owner.Txns k) h)) (numbers_to n)
