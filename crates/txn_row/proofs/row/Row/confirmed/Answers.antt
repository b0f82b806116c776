use Rattle.std.proofs.Common.{subst, sym, ◌∙◌}
use Rattle.upi_words.specs.Prelude.{Event, Said}
use Rattle.txn_row.specs.declared.turn.{Turn.Turn}
use Rattle.txn_row.specs.Rows.{Turns}
use Rattle.txn_row.proofs.Stills.{other_confirms}
use Rattle.txn_row.proofs.row.Row.confirmed.Goals as goal

pub returns-else-is_asked : goal.returns-else-is_asked
returns-else-is_asked c = λ S now.
    let x = c.args.self.now in
    let t = x.opening.terms.txn in
    subst (λ (t' : Turn). Turns S x (Event.Heard c.args.psp.now (Said.Confirmed t)) now t') (sym c.still.ensures.turn)
    (other_confirms S x c.args.psp.now t now c.still.ensures.row (sym c.is_asked.ensures ∙ c.if-is_asked.false))
