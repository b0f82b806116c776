-- What a history comes to: its transactions, what the accounts hold, and the money in flight.
use Rattle.std.specs.Prelude.{ℕ, List, map, ◌≡◌}
use Rattle.upi_base.specs.Setup.{accounts}
use Rattle.upi_words.specs.Prelude.{Account, AccountRef, Setup, History, balance, flight}
use Rattle.upi_model.specs.Settlement.{txn_rows}
use Rattle.upi_replay.specs.declared.held.Totals.{Totals}

-- these accounts, and what each holds
abbrev pub held_by : Setup → History → List Account → List (AccountRef × ℕ)
held_by S h as' = map (λ (a : Account). (a.ac, balance S a h)) as'

-- the accounts of a setup in its order, and what each holds
abbrev pub balances : Setup → History → List (AccountRef × ℕ)
balances S h = held_by S h (accounts S)

-- the totals of a history: transactions in opening order, accounts in setup order
pub record IsTotals (S : Setup) (h : History) (t : Totals) : Type 0 where
  pub rows : t.rows.items ≡ txn_rows S h
  pub balances : t.balances.items ≡ balances S h
  pub flight : t.flight ≡ flight S h
