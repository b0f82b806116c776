-- The orders that each shard of accounts has had in a history.
use Rattle.std.specs.Prelude.{ℕ, if◌then◌else◌, List, [], ◌∷◌, ◌++◌, Option, reverse, option_map}
use Rattle.upi_base.specs.Setup.{account_named}
use Rattle.upi_words.specs.Prelude.{Account, AccountRef, Order, Owner, Setup, History, is_closed, balance}
use Rattle.upi_model.specs.Accounts.{own_orders}
use Rattle.upi_model.specs.History.{is_close}
use Rattle.upi_model.specs.Own.{own_deeds}
use Rattle.account_shard.specs.Closing.{all_returns, orders_at}

-- what the first Close of a history made arrive at a shard, the latest first
abbrev pub returned_at : Setup → ℕ → History → List Order
returned_at S s [] = []
returned_at S s (e ∷ h) = if is_closed h then returned_at S s h else if is_close e.call then orders_at s (reverse (all_returns 16 S h)) else []

-- the orders that each shard has had in a history, the latest first: those that were delivered before the Close, and what that made arrive
abbrev pub orders_in : Setup → History → ℕ → List Order
orders_in S h s = returned_at S s h ++ own_orders (own_deeds (Owner.Accounts s) h)

-- what the account of a name has in a history, if the setup has it
abbrev pub balance_named : Setup → History → AccountRef → Option ℕ
balance_named S h ac = option_map (λ (a : Account). balance S a h) (account_named S ac)
