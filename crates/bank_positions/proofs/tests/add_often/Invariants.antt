use Rattle.std.proofs.Common.{◌≤◌, ◌*◌}
use Rattle.upi_base.specs.declared.code.Leg.TheVariants.{Reversal}
use Rattle.bank_positions.specs.Sums.{sum_of}
use Rattle.bank_positions.proofs.tests.add_often.Given as goal

abbrev pub invariant-loop-done : goal.invariant-loop-done
invariant-loop-done g l = sum_of l.share 1 Reversal ≤ l._done * 1000000000000000
