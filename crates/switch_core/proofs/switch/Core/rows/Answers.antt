use Rattle.std.proofs.Common.{◌∙◌, ap}
use Rattle.upi_model.specs.Settlement.{txn_rows}
use Rattle.upi_model.specs.Chronicle.{Chronicle}
use Rattle.switch_core.proofs.switch.Core.rows.Goals as goal

pub returns : goal.returns
returns c = c.in_ok-rows.ensures c.self.inside.log c.self.invariant ∙ ap (λ (x : Chronicle). txn_rows x.setup x.history) c.self.view_is
