use Rattle.std.proofs.Common.{sym}
use Rattle.upi_words.specs.Prelude.{Event, Setup}
use Rattle.txn_row.specs.declared.turn.{Turn.Turn}
use Rattle.txn_row.specs.Rows.{Turns}
use Rattle.txn_row.specs.calls.Parts.{IsMoved}
use Rattle.txn_row.proofs.Moves.{ok_turn, late_turns_of}
use Rattle.txn_row.proofs.row.Row.late.Goals as goal

pub returns-in-Some : goal.returns-in-Some
returns-in-Some c =
    let x = c.args.self.now in
    ok_turn (λ (t : Turn). (S : Setup) → Turns S x (Event.Late x.opening.terms.txn) c.args.now t) (Turns c.args.dir.now.lines x (Event.Late x.opening.terms.txn) c.args.now)
    (λ t all. all c.args.dir.now.lines) c.late_confirm.result c.late_confirm.ensures

pub returns-in-None : goal.returns-in-None
returns-in-None c =
    let S = c.args.dir.now.lines in
    let x = c.args.self.now in
    let m = c.late-machine.result in
    ok_turn (IsMoved S x m.0 m.1 c.args.now) (Turns S x (Event.Late x.opening.terms.txn) c.args.now)
    (λ t made. late_turns_of S (record { opening = c.self.inside.opening; progress = c.self.inside.progress }) x m.0 m.1 c.args.now t c.self.view_is c.self.invariant (sym c.in-None.is)
    c.late-machine.ensures.follows c.late-machine.ensures.tells made)
    c.moved.result c.moved.ensures.turn
