use Rattle.std.proofs.Common.{◌∙◌, ap}
use Rattle.upi_model.specs.DueList.{due_list}
use Rattle.upi_model.specs.Chronicle.{Chronicle}
use Rattle.switch_core.proofs.switch.Core.due.Goals as goal

pub returns : goal.returns
returns c = c.in_ok-due.ensures c.self.inside.log c.self.invariant ∙ ap (λ (x : Chronicle). due_list x.setup x.history c.args.now) c.self.view_is
