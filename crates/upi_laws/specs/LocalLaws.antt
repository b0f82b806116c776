-- Locality, of legal histories: the laws.
use Rattle.std.specs.Prelude.{false, List, [], Some, Option, nat_lt, length, true, ◌&&◌, if◌then◌else◌, ◌≡◌, ◌∷◌, ℕ}
use Rattle.std.specs.Option.{option_or}
use Rattle.std.specs.List.{filter, flat_map}
use Rattle.upi_words.specs.Prelude.{Setup, History, Legal, is_closed, Order, Account, Call, Text, Leg, Sent, Entry, Opening, Owner, opened}
use Rattle.upi_base.specs.declared.limits.TheConstants.{MAX_ENTRIES}
use Rattle.upi_base.specs.Lists.{when}
use Rattle.upi_base.specs.Setup.{account_named}
use Rattle.upi_base.specs.Shards.{txn_shard}
use Rattle.upi_model.specs.Fits.{owner_with, FitIsLegal, StandOne}
use Rattle.upi_model.specs.Accounts.{own_orders, AccountsSay, MovesOne}
use Rattle.upi_model.specs.Owners.{owner_of, message_of}
use Rattle.upi_model.specs.Local.{StandsFor, IsLocal, IsByOrders}
use Rattle.upi_model.specs.History.{is_close}
use Rattle.upi_model.specs.Own.{Deed, own_deeds, own_standing}
use Rattle.upi_model.specs.Places.{same_leg, in_shard}
use Rattle.upi_model.specs.Postings.{post_reversal, reversal_due, arrival, answer}
use Rattle.upi_model.specs.Sending.{order}
use Rattle.upi_model.specs.AtClose.{returns_at_close, at_close}

-- What a Close makes arrive of a transaction: its reversal, where that hasn't arrived and the transaction is being debited or reversed.
-- Its bank posts it where it posted the debit.
pub record CloseReturns (S : Setup) (e : Entry) (h : History) (t : Text) : Type 0 where
  pub arrivals_are : (l : Leg) → arrival S (e ∷ h) t l ≡ option_or (arrival S h t l) (when (same_leg l Leg.Reversal && returns_at_close (own_standing S t (own_deeds (Owner.Txns (txn_shard t)) h))) e.at)
  pub answers_are : (l : Leg) → answer S (e ∷ h) t l
      ≡ option_or (answer S h t l) (when (same_leg l Leg.Reversal && returns_at_close (own_standing S t (own_deeds (Owner.Txns (txn_shard t)) h))) (post_reversal (answer S h t Leg.Debit)))

-- the reversals that a Close would make arrive of those that a shard has opened, by the whole history
abbrev pub shard_returns : Setup → ℕ → History → List Sent
shard_returns S s h = flat_map (λ (o : Opening). if reversal_due S o.terms.txn h then order S o.terms Leg.Reversal else []) (filter (in_shard s) (opened S h))

-- legal histories by the entries of one owner
pub record LocalLaws : Type 0 where
  -- before a Close a shard's own entries say how its legs were answered, and what its accounts have
  pub accounts : (S : Setup) (s : ℕ) (h : History) → Legal S h → is_closed h ≡ false → AccountsSay S s h
  -- a running balance does for an account of the setup, for all orders, sent or not
  pub balances_run : (S : Setup) (orders : List Order) (o : Order) (a : Account) → account_named S a.ac ≡ Some a → MovesOne S orders o a
  -- after a legal history without a Close, for each call other than a Close: its reply and its messages are its owner's, by its own entries
  pub calls : (S : Setup) (h : History) (c : Call) (now : ℕ) (mine : List Deed) → Legal S h → is_closed h ≡ false → is_close c ≡ false → StandsFor (owner_of h c) mine h → IsLocal S h c now mine
  -- to an order its bank replies by the orders alone, for all entries of a shard of accounts
  pub orders_suffice : (S : Setup) (mine theirs : List Deed) (t : Text) (l : Leg) (m : Option Sent) (now later : ℕ) → own_orders mine ≡ own_orders theirs → IsByOrders S mine theirs t l m now later
  -- where what an owner has stands for its entries of a legal history, an entry that fits leaves the history legal, and each that may come there fits
  pub fits : (S : Setup) (h : History) (mine : List Deed) (m : Option Sent) (e : Entry) → Legal S h → is_closed h ≡ false → nat_lt (length h) MAX_ENTRIES ≡ true
      → message_of h e.call ≡ m → StandsFor (owner_with m e.call) mine h → FitIsLegal S h mine m e
  -- what stands for each owner's entries before a Close, with one entry more
  pub more : (w : Owner) (mine : List Deed) (m : Option Sent) (e : Entry) (h : History) → is_closed (e ∷ h) ≡ false → message_of h e.call ≡ m → StandsFor w mine h → StandOne w mine m e h
  -- a Close makes the reversals arrive of the transactions that are being debited or reversed, by the entries of each one's own shard
  pub close_returns : (S : Setup) (e : Entry) (h : History) (t : Text) → is_closed h ≡ false → e.call ≡ Call.Close → CloseReturns S e h t
  -- and a shard of transactions lists those of its own, by its own entries: each an order to the payer's bank
  pub close_lists : (S : Setup) (s : ℕ) (h : History) → is_closed h ≡ false → at_close S (own_deeds (Owner.Txns s) h) ≡ shard_returns S s h
