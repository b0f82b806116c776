use Rattle.std.proofs.Common.{◌≡◌, drop}
use Rattle.std.specs.List.{list_any}
use Rattle.upi_model.specs.Dues.{orders}
use Rattle.upi_replay.proofs.dues.has_order.Given as goal

abbrev pub invariant-loop-sent : goal.invariant-loop-sent
invariant-loop-sent l = list_any (orders l.txn l.leg) (drop l.sent-index l.list) ≡ list_any (orders l.txn l.leg) l.list
