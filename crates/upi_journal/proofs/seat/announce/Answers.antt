use Rattle.std.proofs.Common.{arith}
use Rattle.upi_journal.proofs.Moves.{announces}
use Rattle.upi_journal.proofs.seat.announce.Goals as goal

pub compare_exchange_with-requires : goal.compare_exchange_with-requires
compare_exchange_with-requires g c =
    (c.requires.board.0, omega (arith, c.requires.board.1), announces g.E.JournalEntry.marks _ _ _ _ _ _ _ c.requires.home c.requires.count.0 c.requires.count.1)
