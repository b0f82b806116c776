use Rattle.std.proofs.Common.{◌≡◌, take}
use Rattle.upi_model.specs.Settlement.{banks}
use Rattle.recon_report.proofs.whole.banks.Given as goal

abbrev pub invariant-loop-line : goal.invariant-loop-line
invariant-loop-line l = l.banks.items ≡ banks (take l.line-index l.setup)
