-- What the sixteen shards of transactions have to do with histories: the laws.
use Rattle.std.specs.Prelude.{ℕ, ◌≡◌, ◌∷◌, true, false, List, map, option_map}
use Rattle.upi_base.specs.Lists.{joined}
use Rattle.upi_words.specs.Prelude.{Call, Entry, Owner, Setup, History, Text, Legal, is_closed, opened, opening}
use Rattle.upi_model.specs.History.{is_close}
use Rattle.upi_model.specs.Owners.{message_of, owner_of}
use Rattle.account_shard.specs.Closing.{all_returns}
use Rattle.txn_row.specs.Rows.{Course}
use Rattle.txn_shard.specs.Shard.{IsPlanOf, opened_by}
use Rattle.txn_shards.specs.Txns.{StandTxns, Placed, MakesIn, all_return, entries_in, name_of, row_in, rows_with}

-- shards of transactions, and histories
pub record TxnLaws : Type 0 where
  -- what is planned of a call after a legal history without a Close is what the definitions reply and send
  pub plans : (S : Setup) (h : History) (c : Call) (now : ℕ) (rss : List (List Course)) (x : Placed) → Legal S h → is_closed h ≡ false → is_close c ≡ false
      → StandTxns S (entries_in h) rss → MakesIn S rss c (message_of h c) now x → IsPlanOf S h c now x.plan
  -- and with its entry the shards stand for the longer history
  pub commits : (S : Setup) (h : History) (e : Entry) (rss : List (List Course)) (x : Placed) → Legal S (e ∷ h) → is_closed (e ∷ h) ≡ false
      → StandTxns S (entries_in h) rss → MakesIn S rss e.call (message_of h e.call) e.at x → StandTxns S (entries_in (e ∷ h)) (rows_with rss x.place x.plan.change)
  -- an entry of a shard of accounts changes nothing
  pub others : (S : Setup) (h : History) (e : Entry) (s : ℕ) (rss : List (List Course)) → is_closed (e ∷ h) ≡ false → owner_of h e.call ≡ Owner.Accounts s → StandTxns S (entries_in h) rss → StandTxns S (entries_in (e ∷ h)) rss
  -- nor does a Close, or what comes after it
  pub rests : (S : Setup) (h : History) (e : Entry) (rss : List (List Course)) → is_closed (e ∷ h) ≡ true → StandTxns S (entries_in h) rss → StandTxns S (entries_in (e ∷ h)) rss
  -- what the rows would make arrive at a Close is what it makes arrive by the history
  pub returns : (S : Setup) (h : History) (rss : List (List Course)) → StandTxns S (entries_in h) rss → all_return S rss ≡ all_returns 16 S h
  -- the row of a transaction is that of its opening, and there is none of what wasn't opened
  pub rows : (S : Setup) (h : History) (rss : List (List Course)) (t : Text) → StandTxns S (entries_in h) rss → option_map (λ (c : Course). c.opening) (row_in rss t) ≡ opening S t h
  -- the transaction that a call opens is the one that its change opens
  pub names : (S : Setup) (h : History) (e : Entry) (rss : List (List Course)) (x : Placed) → Legal S (e ∷ h) → is_closed (e ∷ h) ≡ false
      → StandTxns S (entries_in h) rss → MakesIn S rss e.call (message_of h e.call) e.at x → map name_of (opened S (e ∷ h)) ≡ joined (map name_of (opened S h)) (opened_by x.plan.change)
  -- an entry of a shard of accounts opens none
  pub others_open : (S : Setup) (h : History) (e : Entry) (s : ℕ) → is_closed (e ∷ h) ≡ false → owner_of h e.call ≡ Owner.Accounts s → opened S (e ∷ h) ≡ opened S h
  -- nor does a Close, or what comes after it
  pub rests_open : (S : Setup) (h : History) (e : Entry) → is_closed (e ∷ h) ≡ true → opened S (e ∷ h) ≡ opened S h
