use Rattle.upi_words.specs.Prelude.{Event}
use Rattle.txn_row.specs.Rows.{Turns}
use Rattle.txn_row.specs.calls.Parts.{IsMoved}
use Rattle.txn_row.proofs.Moves.{ok_turn, leg_turns_of}
use Rattle.txn_row.proofs.row.Row.hear_leg.Goals as goal

pub returns : goal.returns
returns c =
    let S = c.args.dir.now.lines in
    let x = c.args.self.now in
    let m = c.heard_leg-machine.result in
    ok_turn (IsMoved S x m.0 m.1 c.args.now) (Turns S x (Event.Answered x.opening.terms.txn c.args.leg c.args.answer) c.args.now)
    (λ t made. leg_turns_of S (record { opening = c.self.inside.opening; progress = c.self.inside.progress }) x m.0 m.1 c.args.leg c.args.answer c.args.now t c.self.view_is c.self.invariant
    c.heard_leg-machine.ensures.follows c.heard_leg-machine.ensures.tells c.heard_leg-machine.ensures.ended made)
    c.moved.result c.moved.ensures.turn
