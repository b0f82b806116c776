-- Rows as settlement and the report see them.
use Rattle.std.specs.Prelude.{◌≡◌, true, List, is_some}
use Rattle.std.specs.List.{AllByRecursion}
use Rattle.upi_words.specs.Prelude.{TxnRow, Setup, is_posted}
use Rattle.upi_base.specs.Setup.{account_at}
use Rattle.upi_model.specs.Settlement.{bank_at}
use Rattle.upi_replay.specs.declared.rows.Row.{Row}
use Rattle.upi_replay.specs.Rows.{row_outcome}

-- payer and payee have accounts
pub record IsBanked (S : Setup) (r : Row) : Type 0 where
  pub payer_known : is_some (account_at S r.opening.terms.payer) ≡ true
  pub payee_known : is_some (account_at S r.opening.terms.payee) ≡ true

-- of all rows
abbrev pub AreBanked : Setup → List Row → Type 0
AreBanked S rows = AllByRecursion (IsBanked S) rows

-- the transaction of a row
abbrev pub row_txn : Setup → Row → TxnRow
row_txn S r = record {
  txn = r.opening.terms.txn;
  payer_bank = bank_at S r.opening.terms.payer;
  payee_bank = bank_at S r.opening.terms.payee;
  amount = r.opening.terms.amount;
  outcome = row_outcome r;
  credit_moved = is_posted r.credited;
}
