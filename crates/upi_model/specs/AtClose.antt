-- What a Close makes arrive, by the own entries of the shards of transactions.
use Rattle.std.specs.Prelude.{Bool, if◌then◌else◌, List, []}
use Rattle.std.specs.List.{flat_map}
use Rattle.upi_model.specs.Types.{Sent, Leg, Opening, Setup}
use Rattle.upi_model.specs.Postings.{reversal_due_by}
use Rattle.upi_model.specs.Standing.{Standing}
use Rattle.upi_model.specs.Sending.{order}
use Rattle.upi_model.specs.Own.{Deed, own_opened, own_standing}

-- the transaction is being debited, or being reversed: a Close would make its reversal arrive
abbrev pub returns_at_close : Standing → Bool
returns_at_close s = reversal_due_by s.decision s.debit_end s.credit_end s.reversal_end

-- the reversal that a Close would make arrive of one that the shard has opened
abbrev pub returned_at_close : Setup → List Deed → Opening → List Sent
returned_at_close S mine o = if returns_at_close (own_standing S o.terms.txn mine) then order S o.terms Leg.Reversal else []

-- the reversals that a Close would make arrive, of a shard of transactions: one of each that is being debited or reversed, in the order of its openings
abbrev pub at_close : Setup → List Deed → List Sent
at_close S mine = flat_map (returned_at_close S mine) (own_opened S mine)
