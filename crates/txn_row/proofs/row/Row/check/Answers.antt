use Rattle.std.proofs.Common.{ap, subst, sym, ◌∙◌}
use Rattle.upi_words.specs.Prelude.{Event, Reply, Said}
use Rattle.txn_row.specs.declared.turn.{Turn.Turn}
use Rattle.txn_row.specs.Rows.{Turns}
use Rattle.txn_row.specs.calls.Parts.{still}
use Rattle.txn_row.proofs.Stills.{check_turns}
use Rattle.txn_row.proofs.row.Row.check.Goals as goal

pub returns : goal.returns
returns c = λ S now.
    subst (λ (t : Turn). Turns S c.args.self.now (Event.Heard c.args.psp.now (Said.Check c.args.self.now.opening.terms.txn)) now t)
    (sym (c.still.ensures.turn ∙ ap (λ (r : Reply). still c.args.self.now r) c.check_reply.ensures))
    (check_turns S c.args.self.now c.args.psp.now c.args.self.now.opening.terms.txn now c.still.ensures.row)
