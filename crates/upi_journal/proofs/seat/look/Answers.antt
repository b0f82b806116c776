use Rattle.std.proofs.Common.{arith}
use Rattle.upi_journal.proofs.Moves.{looks}
use Rattle.upi_journal.proofs.seat.look.Goals as goal

pub load-requires : goal.load-requires
load-requires g c = (c.requires.board.0, omega (arith, c.requires.board.1), looks g.E.JournalEntry.marks _ _ _ _ _)
