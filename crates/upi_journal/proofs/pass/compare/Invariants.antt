use Rattle.std.proofs.Common.{◌≡◌, ◌++◌, All}
use Rattle.upi_journal.specs.Passes.{IsWhole}
use Rattle.upi_journal.specs.calls.Seats.{IsHomeSeat}
use Rattle.upi_journal.proofs.pass.compare.Given as goal

abbrev pub invariant-loop-pass : goal.invariant-loop-pass
invariant-loop-pass g l =
    IsHomeSeat g.E.JournalEntry.marks g.N.JournalName.charter l.home
    × (l.home.me.0.seen ≡ l.initial.home.me.0.seen)
    × All (IsWhole g.E.JournalEntry.marks l.initial.home.me.0.seen) l.yielded
    × (l.yielded ++ l.pass-iterator.rest.items ≡ l.fn.passes.items)
