use Rattle.std.proofs.Common.{◌∙◌, ap}
use Rattle.upi_model.specs.Pending.{lowest_pending}
use Rattle.script_engine.specs.Play.{Play}
use Rattle.script_engine.specs.calls.Marks.{unmarked_from}
use Rattle.script_engine.proofs.Marked.{lowest_marked}
use Rattle.script_engine.proofs.player.Player.lowest.Goals as goal

pub returns-clause-lowest : goal.returns-clause-lowest
returns-clause-lowest c =
    c.lowest.ensures.lowest
    ∙ (ap (unmarked_from c.self.inside.pending 1) c.sent_count.ensures
    ∙ (lowest_marked c.self.inside.core.history c.self.inside.pending c.self.invariant.taken ∙ ap (λ (p : Play). lowest_pending p.history) c.self.view_is))
