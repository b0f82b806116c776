-- What a row of a transaction puts on the lists, and lists that hold what all rows put there.
use Rattle.std.specs.Prelude.{◌≡◌, if◌then◌else◌, List, [], ◌∷◌}
use Rattle.std.specs.declared.alloc.Global.{Global}
use Rattle.std.specs.declared.vec.Vec.{Vec}
use Rattle.indexmap.specs.IndexMap.{IndexMap}
use Rattle.upi_model.specs.Settlement.{is_settled, is_unmatched, items_of, settlement_items}
use Rattle.upi_words.specs.Prelude.{Text, Item, Recon, TxnRow}
use Rattle.settlement.specs.calls.Lists.{list_at}

-- the items of a transaction at a bank: none unless it is settled
abbrev pub row_items : Text → TxnRow → List Item
row_items bank r = if is_settled r.outcome then items_of bank r else []

-- the reconciliation item of a transaction, if it has one
abbrev pub row_recon : TxnRow → List Recon
row_recon r = if is_unmatched r then record { txn = r.txn; bank = r.payee_bank; amount = r.amount } ∷ [] else []

-- a table has at each bank the bank's settlement list
abbrev pub ListsAll : {S : Type 0} → IndexMap Text (Vec Item Global) S → List TxnRow → Type 0
ListsAll lists rows = (bank : Text) → list_at lists bank ≡ settlement_items bank rows
