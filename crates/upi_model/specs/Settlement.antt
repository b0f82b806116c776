-- Settlement, reconciliation and positions.
use Rattle.std.specs.Prelude.{ℕ, Bool, true, false, not, ◌&&◌, if◌then◌else◌, List, [], ◌∷◌, ◌++◌, Option, Some, None, map, ℤ, pos, ◌-ℤ◌}
use Rattle.std.specs.List.{sum_by, flat_map}
use Rattle.std.specs.Str.{bytes_eq}
use Rattle.upi_model.specs.Types.{Leg, Outcome, TxnRow, Account, SetupLine, Item, Recon, Side, Opening, Setup, History, Text}
use Rattle.upi_base.specs.declared.settled.Side.TheVariants as stands
use Rattle.upi_base.specs.Setup.{account_at}
use Rattle.upi_model.specs.Places.{opened}
use Rattle.upi_model.specs.Outcomes.{outcome_of}
use Rattle.upi_model.specs.Postings.{answer, is_posted, moved}
pub use Rattle.upi_base.specs.Setup.{accounts}

-- the bank of an address's account; none where there is no account
abbrev pub bank_of : Option Account → Text
bank_of None = []
bank_of (Some a) = a.ac.bank

-- the bank of the account of an address
abbrev pub bank_at : Setup → Text → Text
bank_at S addr = bank_of (account_at S addr)

-- SUCCESS and DEEMED are settled
abbrev pub is_settled : Option Outcome → Bool
is_settled (Some Outcome.Success) = true
is_settled (Some Outcome.Deemed) = true
is_settled _ = false

-- the outcome is DEEMED
abbrev pub is_deemed : Option Outcome → Bool
is_deemed (Some Outcome.Deemed) = true
is_deemed _ = false

-- the items of a settled transaction at a bank: paid, then received
abbrev pub items_of : Text → TxnRow → List Item
items_of bank r =
    (if bytes_eq r.payer_bank bank then record { txn = r.txn; side = Side.Paid; amount = r.amount } ∷ [] else [])
    ++ (if bytes_eq r.payee_bank bank then record { txn = r.txn; side = Side.Received; amount = r.amount } ∷ [] else [])

-- the settlement list of a bank: the items of those transactions that are settled
abbrev pub settlement_items : Text → List TxnRow → List Item
settlement_items bank rows = flat_map (λ (r : TxnRow). if is_settled r.outcome then items_of bank r else []) rows

-- a transaction as settlement and the report see it
abbrev pub txn_row : Setup → History → Opening → TxnRow
txn_row S h o = record {
  txn = o.terms.txn;
  payer_bank = bank_at S o.terms.payer;
  payee_bank = bank_at S o.terms.payee;
  amount = o.terms.amount;
  outcome = outcome_of S o.terms.txn h;
  credit_moved = is_posted (answer S h o.terms.txn Leg.Credit);
}

-- the transactions of a history, in opening order
abbrev pub txn_rows : Setup → History → List TxnRow
txn_rows S h = map (txn_row S h) (opened S h)

-- a bank's settlement list, in opening order
abbrev pub settle : Setup → Text → History → List Item
settle S bank h = settlement_items bank (txn_rows S h)

-- what the bank received by an item of its settlement list
abbrev pub received_in : Item → ℕ
received_in i = by i.side i.amount
  where
    by : stands.the_data → ℕ → ℕ
    by Side.Paid amount = 0
    by Side.Received amount = amount

-- what the bank paid by an item of its settlement list
abbrev pub paid_in : Item → ℕ
paid_in i = by i.side i.amount
  where
    by : stands.the_data → ℕ → ℕ
    by Side.Paid amount = amount
    by Side.Received amount = 0

-- what was received less what was paid, by the items of a settlement list
abbrev pub net_of : List Item → ℤ
net_of items = pos (sum_by received_in items) -ℤ pos (sum_by paid_in items)

-- what a bank received less what it paid
abbrev pub net : Setup → Text → History → ℤ
net S bank h = net_of (settle S bank h)

-- the transaction is DEEMED and its credit didn't move, so that it has a reconciliation item
abbrev pub is_unmatched : TxnRow → Bool
is_unmatched r = is_deemed r.outcome && not r.credit_moved

-- the reconciliation items of these transactions
abbrev pub recon_items : List TxnRow → List Recon
recon_items rows = flat_map (λ (r : TxnRow). if is_unmatched r then record { txn = r.txn; bank = r.payee_bank; amount = r.amount } ∷ [] else []) rows

-- the reconciliation items, in opening order
abbrev pub recon : Setup → History → List Recon
recon S h = recon_items (txn_rows S h)

-- what a leg of all payments moved at a bank's accounts
abbrev pub position : Setup → Text → Leg → History → ℕ
position S bank Leg.Debit h = sum_by (λ (o : Opening). if bytes_eq (bank_at S o.terms.payer) bank then moved S h o.terms.txn Leg.Debit else 0) (opened S h)
position S bank Leg.Reversal h = sum_by (λ (o : Opening). if bytes_eq (bank_at S o.terms.payer) bank then moved S h o.terms.txn Leg.Reversal else 0) (opened S h)
position S bank Leg.Credit h = sum_by (λ (o : Opening). if bytes_eq (bank_at S o.terms.payee) bank then moved S h o.terms.txn Leg.Credit else 0) (opened S h)

-- the banks of the setup, in order
abbrev pub banks : Setup → List Text
banks [] = []
banks (SetupLine.Bank code ∷ lines) = code ∷ banks lines
banks (SetupLine.Psp name ∷ lines) = banks lines
banks (SetupLine.Account ac opening no_debit no_credit ∷ lines) = banks lines
banks (SetupLine.Address addr ac policy ∷ lines) = banks lines
