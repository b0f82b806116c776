use Rattle.std.proofs.Common.{◌∙◌, ap}
use Rattle.upi_words.specs.Prelude.{outcome_of}
use Rattle.upi_model.specs.Chronicle.{Chronicle}
use Rattle.switch_core.proofs.switch.Core.outcome.Goals as goal

pub returns : goal.returns
returns c = c.outcome.ensures c.self.inside.log c.self.invariant ∙ ap (λ (x : Chronicle). outcome_of x.setup c.args.txn.now x.history) c.self.view_is
