use Rattle.std.proofs.Common.{◌≡◌, drop}
use Rattle.std.specs.List.{list_any}
use Rattle.upi_model.specs.Places.{has_id}
use Rattle.upi_replay.specs.Rows.{openings}
use Rattle.upi_replay.proofs.rules.has_txn.Given as goal

abbrev pub invariant-loop-row : goal.invariant-loop-row
invariant-loop-row l = list_any (has_id l.txn) (openings (drop l.row-index l.rows)) ≡ list_any (has_id l.txn) (openings l.rows)
