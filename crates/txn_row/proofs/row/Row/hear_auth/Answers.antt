use Rattle.std.proofs.Common.{subst, sym, ◌∙◌}
use Rattle.upi_words.specs.Prelude.{Event, Said}
use Rattle.txn_row.specs.declared.turn.{Turn.Turn}
use Rattle.txn_row.specs.Rows.{Turns}
use Rattle.txn_row.proofs.Stills.{other_answers}
use Rattle.txn_row.proofs.row.Row.hear_auth.Goals as goal

pub returns-else-is_asked : goal.returns-else-is_asked
returns-else-is_asked c =
    subst (λ (t' : Turn). Turns c.args.dir.now.lines c.args.self.now (Event.Heard c.args.psp.now (Said.Auth c.args.word.now)) c.args.now t') (sym c.still.ensures.turn)
    (other_answers c.args.dir.now.lines c.args.self.now c.args.psp.now c.args.word.now c.args.now c.still.ensures.row (sym c.is_asked.ensures ∙ c.if-is_asked.false))
