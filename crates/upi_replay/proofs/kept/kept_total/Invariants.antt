use Rattle.std.proofs.Common.{◌≡◌, ◌≤◌, ◌*◌, take}
use Rattle.upi_model.specs.Accounts.{kept_total}
use Rattle.upi_replay.proofs.kept.kept_total.Given as goal

abbrev pub invariant-loop-row : goal.invariant-loop-row
invariant-loop-row l = (l.sum ≡ kept_total (take l.row-index l.rows) l.ac l.leg) × (l.sum ≤ 1_000_000_000_000_000 * l.row-index)
