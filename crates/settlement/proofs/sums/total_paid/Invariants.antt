use Rattle.std.proofs.Common.{◌≡◌, ◌≤◌, ◌*◌, take}
use Rattle.std.specs.List.{sum_by}
use Rattle.upi_model.specs.Settlement.{paid_in}
use Rattle.settlement.proofs.sums.total_paid.Given as goal

abbrev pub invariant-loop-item : goal.invariant-loop-item
invariant-loop-item l = (l.sum ≡ sum_by paid_in (take l.item-index l.items)) × (l.sum ≤ 1_000_000_000_000_000 * l.item-index)
