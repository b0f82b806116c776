use Rattle.std.proofs.Common.{◌≡◌, drop}
use Rattle.upi_base.specs.Setup.{has_psp}
use Rattle.upi_base.proofs.directory.has_psp.Given as goal

abbrev pub invariant-loop-line : goal.invariant-loop-line
invariant-loop-line l = has_psp (drop l.line-index l.lines) l.name ≡ has_psp l.lines l.name
