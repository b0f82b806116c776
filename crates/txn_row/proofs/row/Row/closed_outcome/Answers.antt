use Rattle.std.proofs.Common.{ap, ◌∙◌}
use Rattle.upi_words.specs.Prelude.{Reply}
use Rattle.txn_machine.specs.declared.moves.{Wants.Wants}
use Rattle.txn_row.specs.Rows.{closed_outcome_in, machine_in}
use Rattle.txn_row.proofs.Readers.{closed_is}
use Rattle.txn_row.proofs.row.Row.closed_outcome.Goals as goal

pub returns : goal.returns
returns c =
    closed_is (record { opening = c.self.inside.opening; progress = c.self.inside.progress }) (machine_in c.closed.result) (record { reply = Reply.Closed; wants = Wants.Nothing }) c.outcome.result c.self.invariant c.closed.ensures c.outcome.ensures
    ∙ ap closed_outcome_in c.self.view_is
