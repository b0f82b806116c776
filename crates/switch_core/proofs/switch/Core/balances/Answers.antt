use Rattle.std.proofs.Common.{◌∙◌, ap}
use Rattle.upi_base.specs.Setup.{accounts}
use Rattle.upi_model.specs.Chronicle.{Chronicle}
use Rattle.switch_core.specs.Held.{held_by}
use Rattle.switch_core.proofs.switch.Core.balances.Goals as goal

pub returns : goal.returns
returns c = c.in_ok-all.ensures c.self.inside.log c.self.invariant ∙ ap (λ (x : Chronicle). held_by x.setup x.history (accounts x.setup)) c.self.view_is
