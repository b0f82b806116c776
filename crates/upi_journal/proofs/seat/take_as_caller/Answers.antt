use Rattle.std.proofs.Common.{arith, refl}
use Rattle.upi_journal.proofs.Moves.{caller_takes}
use Rattle.upi_journal.proofs.seat.take_as_caller.Goals as goal

pub compare_exchange_with-requires : goal.compare_exchange_with-requires
compare_exchange_with-requires g c =
    let l = c.requires.last in
    (c.requires.board.0, omega (arith, c.requires.board.1), caller_takes g.E.JournalEntry.marks _ _ _ _ _ _ l.0 _ _ c.requires.role l.1 refl l.3 (omega (arith, l.2)) c.requires.phase.0)
