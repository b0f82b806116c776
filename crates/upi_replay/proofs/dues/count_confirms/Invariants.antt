use Rattle.std.proofs.Common.{◌≡◌, take}
use Rattle.std.specs.Prelude.{min}
use Rattle.std.specs.List.{count_by}
use Rattle.upi_model.specs.History.{sent}
use Rattle.upi_base.specs.declared.limits.TheConstants.{MAX_CONFIRMATIONS}
use Rattle.upi_model.specs.Dues.{confirms}
use Rattle.upi_model.specs.History.{past}
use Rattle.upi_replay.proofs.dues.count_confirms.Given as goal

abbrev pub invariant-loop-e : goal.invariant-loop-e
invariant-loop-e l = l.count ≡ min (count_by (confirms l.txn) (sent (past (take l.e-index l.history)))) MAX_CONFIRMATIONS
