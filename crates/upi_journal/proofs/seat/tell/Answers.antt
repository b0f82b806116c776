use Rattle.std.proofs.Common.{arith, ap, ◌∙◌}
use Rattle.upi_journal.proofs.Seats.{notes, tells}
use Rattle.upi_journal.proofs.seat.tell.Goals as goal

pub split_seat-note-requires : goal.split_seat-note-requires
split_seat-note-requires g c = (c.requires.board.0, omega (arith, c.requires.board.2), notes g.E.JournalEntry.marks _ _ _)

pub join_seat-requires : goal.join_seat-requires
join_seat-requires g c =
    let n = c.split_seat-note.ensures in
    (c.requires.board.1, n.3 ∙ c.requires.board.0, ap (λ m. m.1) n.4, omega (arith, c.requires.board.2), tells g.E.JournalEntry.marks _ _ _ _ _ (ap (λ m. m.0.role) n.4))
