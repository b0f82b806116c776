-- What a contract sees of the sixteen and sixteen shards, and for which history they stand.
use Rattle.std.specs.Prelude.{ℕ, ◌≡◌, true, Bool, List, map}
use Rattle.upi_base.specs.Setup.{is_setup}
use Rattle.upi_words.specs.Prelude.{Account, AccountRef, Setup, History, Text, Legal, balance, flight, is_closed, opened}
use Rattle.leg_post.specs.Posts.{Ledger}
use Rattle.bank_shards.specs.Banks.{StandAll, without_room}
use Rattle.bank_shards.specs.Histories.{orders_in}
use Rattle.txn_shard.specs.Rows.{Shard}
use Rattle.txn_shards.specs.Txns.{StandTxns, entries_in, name_of, rows_all}

-- the names of the transactions that were opened, in their order, and for how many more there is room
pub record Names : Type 0 where
  pub names : List Text
  pub spare : ℕ

-- the setup's lines, the shards of transactions and of accounts, the names that were opened, the money in flight, and whether the switch was
-- closed
pub record Tables : Type 0 where
  pub lines : Setup
  pub txns : List Shard
  pub banks : List Ledger
  pub opened : Names
  pub flight : ℕ
  pub closed : Bool

-- The tables stand for a legal history over their setup, which is accepted.
pub record StandsAll (h : History) (v : Tables) : Type 0 where
  pub accepted : is_setup v.lines ≡ true
  pub legal : Legal v.lines h
  pub txns_stand : StandTxns v.lines (entries_in h) (rows_all v.txns)
  pub banks_stand : StandAll v.lines (orders_in v.lines h) v.banks
  pub names_are : v.opened.names ≡ map name_of (opened v.lines h)
  pub flight_is : v.flight ≡ flight v.lines h
  pub closed_is : v.closed ≡ is_closed h

-- nothing but room changed
pub record IsSame (old new : Tables) : Type 0 where
  pub lines : new.lines ≡ old.lines
  pub txns : rows_all new.txns ≡ rows_all old.txns
  pub banks : map without_room new.banks ≡ map without_room old.banks
  pub names : new.opened.names ≡ old.opened.names
  pub flight : new.flight ≡ old.flight
  pub closed : new.closed ≡ old.closed

-- an account, and what it has
abbrev pub with_balance : Setup → History → Account → AccountRef × ℕ
with_balance S h a = (a.ac, balance S a h)
