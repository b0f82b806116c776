use Rattle.std.proofs.Common.{◌≡◌, take}
use Rattle.upi_base.proofs.sent.SentList.copy.Given as goal

abbrev pub invariant-loop-sent : goal.invariant-loop-sent
invariant-loop-sent l = l.items.items ≡ take l.sent-index l.self
