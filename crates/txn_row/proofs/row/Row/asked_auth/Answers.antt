use Rattle.std.proofs.Common.{ap, subst, sym, ◌∙◌}
use Rattle.upi_words.specs.Prelude.{Event, Said}
use Rattle.txn_row.specs.declared.turn.{Turn.Turn}
use Rattle.upi_model.specs.Places.{accounts_agree}
use Rattle.txn_row.specs.Rows.{Course, Turns}
use Rattle.txn_row.specs.calls.Parts.{IsMoved}
use Rattle.txn_row.proofs.Stills.{wrong_answers}
use Rattle.txn_row.proofs.Moves.{ok_turn, auth_turns_of}
use Rattle.txn_row.proofs.row.Row.asked_auth.Goals as goal

pub returns-then-accounts_agree : goal.returns-then-accounts_agree
returns-then-accounts_agree c =
    let S = c.args.dir.now.lines in
    let x = c.args.self.now in
    let m = c.heard_auth-machine.result in
    ok_turn (IsMoved S x m.0 m.1 c.args.now) (Turns S x (Event.Heard c.args.psp.now (Said.Auth c.args.word.now)) c.args.now)
    (λ t made. auth_turns_of S (record { opening = c.self.inside.opening; progress = c.self.inside.progress }) x m.0 m.1 c.args.psp.now c.args.word.now c.args.now t c.self.view_is c.self.invariant
    c.requires.named c.requires.its (ap (λ (d : Course). accounts_agree c.args.dir.now.lines d.opening.terms c.args.word.now) (sym c.self.view_is) ∙ sym c.accounts_agree.ensures ∙ c.if-accounts_agree.true)
    c.heard_auth-machine.ensures.follows c.heard_auth-machine.ensures.tells c.heard_auth-machine.ensures.ended made)
    c.moved.result c.moved.ensures.turn

pub returns-else-accounts_agree : goal.returns-else-accounts_agree
returns-else-accounts_agree c =
    subst (λ (t' : Turn). Turns c.args.dir.now.lines c.args.self.now (Event.Heard c.args.psp.now (Said.Auth c.args.word.now)) c.args.now t') (sym c.still.ensures.turn)
    (wrong_answers c.args.dir.now.lines c.args.self.now c.args.psp.now c.args.word.now c.args.now c.still.ensures.row c.requires.its
    (ap (λ (d : Course). accounts_agree c.args.dir.now.lines d.opening.terms c.args.word.now) (sym c.self.view_is) ∙ sym c.accounts_agree.ensures ∙ c.if-accounts_agree.false))
