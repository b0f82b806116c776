use Rattle.std.proofs.Common.{◌≡◌, take}
use Rattle.upi_model.specs.Dues.{orders, last_sent, due_after}
use Rattle.upi_model.specs.History.{past}
use Rattle.upi_replay.proofs.dues.last_order.Given as goal

abbrev pub invariant-loop-e : goal.invariant-loop-e
invariant-loop-e l = l.last ≡ due_after (last_sent (orders l.txn l.leg) (past (take l.e-index l.history)))
