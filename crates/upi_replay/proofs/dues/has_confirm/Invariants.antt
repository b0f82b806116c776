use Rattle.std.proofs.Common.{◌≡◌, drop}
use Rattle.std.specs.List.{list_any}
use Rattle.upi_model.specs.Dues.{confirms}
use Rattle.upi_replay.proofs.dues.has_confirm.Given as goal

abbrev pub invariant-loop-sent : goal.invariant-loop-sent
invariant-loop-sent l = list_any (confirms l.txn) (drop l.sent-index l.list) ≡ list_any (confirms l.txn) l.list
