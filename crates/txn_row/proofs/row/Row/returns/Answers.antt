use Rattle.std.proofs.Common.{ap, ◌∙◌}
use Rattle.txn_row.specs.Rows.{returns_in}
use Rattle.txn_row.proofs.Readers.{waits_is}
use Rattle.txn_row.proofs.row.Row.returns.Goals as goal

pub returns : goal.returns
returns c =
    c.waits.ensures ∙ waits_is (record { opening = c.self.inside.opening; progress = c.self.inside.progress }) c.phase.result c.self.invariant c.phase.ensures
    ∙ ap returns_in c.self.view_is
