-- Which orders a shard can post, and what leaves it as it is: the laws.
use Rattle.std.specs.Prelude.{ℕ, ◌≡◌, false, [], ◌∷◌, ◌++◌, Some, reverse}
use Rattle.upi_base.specs.Shards.{account_shard}
use Rattle.upi_words.specs.Prelude.{Order, Owner, Sent, Setup, SetupLine, History, Legal, is_closed}
use Rattle.upi_model.specs.Accounts.{order_of, own_orders}
use Rattle.upi_model.specs.History.{message_at}
use Rattle.upi_model.specs.Own.{own_deeds}
use Rattle.leg_post.specs.Posts.{Ledger}
use Rattle.account_shard.specs.Closing.{AreReturns, all_returns, orders_at}
use Rattle.account_shard.specs.Shard.{Stands, CanPost, is_in}

-- shards of accounts, and histories
pub record ShardLaws : Type 0 where
  -- each order that a legal history without a Close has sent to an account of the shard can be posted there
  pub orders_fit : (S : Setup) (h : History) (n : ℕ) (m : Sent) (o : Order) (p : Ledger) → Legal S h → is_closed h ≡ false → message_at h n ≡ Some m → order_of m.body ≡ Some o
      → Stands S (account_shard o.ac) (own_orders (own_deeds (Owner.Accounts (account_shard o.ac)) h)) p → CanPost p o
  -- before the first order, a further line of the setup that gives no account of the shard changes nothing
  pub lines_beside : (S : Setup) (s : ℕ) (l : SetupLine) (p : Ledger) → is_in s l ≡ false → Stands S s [] p → Stands (S ++ l ∷ []) s [] p
  -- what a Close makes arrive of the sixteen shards of transactions is, at each shard of accounts, what that awaits
  pub returns : (S : Setup) (s : ℕ) (h : History) → is_closed h ≡ false → AreReturns S s h (orders_at s (reverse (all_returns 16 S h)))
