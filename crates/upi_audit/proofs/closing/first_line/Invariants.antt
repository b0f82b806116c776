use Rattle.std.proofs.Common.{◌≡◌, ◌++◌, take, drop}
use Rattle.upi_audit.specs.calls.Steps.{first_line}
use Rattle.upi_audit.proofs.closing.first_line.Given as goal

abbrev pub invariant-loop-i : goal.invariant-loop-i
invariant-loop-i l = first_line l.text ≡ take l.i l.text ++ first_line (drop l.i l.text)
