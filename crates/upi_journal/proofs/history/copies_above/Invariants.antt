use Rattle.std.proofs.Common.{◌≡◌, take}
use Rattle.upi_journal.proofs.history.copies_above.Given as goal

abbrev pub invariant-loop-entry : goal.invariant-loop-entry
invariant-loop-entry g l = l.copies.items ≡ take l.entry-index l.above
