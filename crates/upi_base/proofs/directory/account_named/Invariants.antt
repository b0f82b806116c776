use Rattle.std.proofs.Common.{◌≡◌, drop}
use Rattle.upi_base.specs.Setup.{account_named}
use Rattle.upi_base.proofs.directory.account_named.Given as goal

abbrev pub invariant-loop-line : goal.invariant-loop-line
invariant-loop-line l = account_named (drop l.line-index l.lines) l.wanted ≡ account_named l.lines l.wanted
