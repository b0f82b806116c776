use Rattle.std.proofs.Common.{◌≡◌, drop}
use Rattle.upi_base.specs.Setup.{has_bank}
use Rattle.upi_base.proofs.directory.has_bank.Given as goal

abbrev pub invariant-loop-line : goal.invariant-loop-line
invariant-loop-line l = has_bank (drop l.line-index l.lines) l.code ≡ has_bank l.lines l.code
