use Rattle.std.proofs.Common.{ap, ◌∙◌}
use Rattle.upi_base.specs.declared.setup.Setup.{Setup}
use Rattle.upi_base.specs.Setup.{has_psp}
use Rattle.vpa_directory.proofs.Directory.has_psp.Goals as goal

pub returns : goal.returns
returns c = c.contains.ensures ∙ c.self.invariant.psps_fit.found c.args.name.now ∙ ap (λ (s : Setup). has_psp s.lines c.args.name.now) c.self.view_is
