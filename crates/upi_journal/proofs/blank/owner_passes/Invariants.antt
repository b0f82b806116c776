use Rattle.std.proofs.Common.{◌≡◌, []}
use Rattle.upi_journal.specs.Rule.{home_with}
use Rattle.upi_journal.specs.Passes.{owners_over}
use Rattle.upi_journal.proofs.blank.owner_passes.Given as goal

abbrev pub invariant-loop-number : goal.invariant-loop-number
invariant-loop-number g l =
    let shape = g.N.JournalName.charter.shape in
    (l.home.table_id ≡ shape.table) × (l.home.me ≡ (home_with shape.before l.number shape.first, [])) × (l.passes.items ≡ owners_over g.E.JournalEntry.marks shape.before l.number)
