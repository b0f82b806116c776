use Rattle.std.proofs.Common.{subst, sym, ◌≡◌}
use Rattle.upi_words.specs.Prelude.{Event, Setup}
use Rattle.txn_row.specs.declared.turn.{Turn.Turn}
use Rattle.txn_row.specs.Rows.{Turns, outcome_in}
use Rattle.txn_row.specs.calls.Parts.{confirmed_with}
use Rattle.txn_row.proofs.Moves.{ok_turn}
use Rattle.txn_row.proofs.Confirmations.{confirm_turns}
use Rattle.txn_row.proofs.row.Row.late_confirm.Goals as goal

pub returns : goal.returns
returns c =
    let x = c.args.self.now in
    let g = c.late-again.new.self in
    ok_turn (λ (t : Turn). t ≡ confirmed_with x g c.late-again.result (outcome_in x)) (λ (t : Turn). (S : Setup) → Turns S x (Event.Late x.opening.terms.txn) c.args.now t)
    (λ t is S. subst (Turns S x (Event.Late x.opening.terms.txn) c.args.now) (sym is) (confirm_turns S x c.args.confirmed.now g c.late-again.result c.args.now c.confirmed_turn.ensures.row c.requires c.late-again.ensures.lates))
    c.confirmed_turn.result c.confirmed_turn.ensures.turn
