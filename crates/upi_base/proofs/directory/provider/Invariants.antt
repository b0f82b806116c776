use Rattle.std.proofs.Common.{◌≡◌, drop}
use Rattle.upi_base.specs.Setup.{provider}
use Rattle.upi_base.proofs.directory.provider.Given as goal

abbrev pub invariant-loop-i : goal.invariant-loop-i
invariant-loop-i l = provider (drop l.i l.addr) ≡ provider l.addr
