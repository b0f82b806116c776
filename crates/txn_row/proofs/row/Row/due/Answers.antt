use Rattle.std.proofs.Common.{ap, sym, ◌∙◌}
use Rattle.txn_row.specs.Rows.{due_in}
use Rattle.txn_row.proofs.Readers.{due_with, due_without}
use Rattle.txn_row.proofs.row.Row.due.Goals as goal

pub returns-in-Some : goal.returns-in-Some
returns-in-Some c =
    due_with (record { opening = c.self.inside.opening; progress = c.self.inside.progress }) c.in-Some.confirm c.due.result c.self.invariant (sym c.in-Some.is) c.due.ensures
    ∙ ap due_in c.self.view_is

pub returns-in-None : goal.returns-in-None
returns-in-None c =
    due_without (record { opening = c.self.inside.opening; progress = c.self.inside.progress }) c.due-in-None.result c.self.invariant (sym c.in-None.is) c.due-in-None.ensures
    ∙ ap due_in c.self.view_is
