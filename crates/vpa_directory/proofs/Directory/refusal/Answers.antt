use Rattle.std.proofs.Common.{ap, sym, ◌∙◌}
use Rattle.upi_base.specs.declared.setup.Setup.{Setup}
use Rattle.upi_base.specs.declared.setup.SetupLine.{SetupLine}
use Rattle.upi_base.specs.Setup.{setup_fault}
use Rattle.vpa_directory.proofs.Refusals.{address_judged}
use Rattle.vpa_directory.proofs.Directory.refusal.Goals as goal

pub returns-in-Address : goal.returns-in-Address
returns-in-Address c =
    let d = c.self.inside in
    let fits = c.self.invariant in
    c.address_refusal.ensures
    ∙ address_judged d.setup.lines d.psps.keys d.accounts.keys d.addresses.entries c.in-Address.addr c.in-Address.ac fits.psps_fit fits.accounts_fit fits.addresses_fit
    ∙ ap (λ (l : SetupLine). setup_fault d.setup.lines l) (sym c.in-Address.is)
    ∙ ap (λ (s : Setup). setup_fault s.lines c.args.line.now) c.self.view_is
