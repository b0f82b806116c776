use Rattle.std.proofs.Common.{◌∙◌, ap}
use Rattle.upi_model.specs.Chronicle.{Chronicle}
use Rattle.switch_core.specs.Held.{balance_at}
use Rattle.switch_core.proofs.switch.Core.balance.Goals as goal

pub returns : goal.returns
returns c = c.balance.ensures c.self.inside.log c.self.invariant ∙ ap (λ (x : Chronicle). balance_at x.setup x.history c.args.ac.now) c.self.view_is
