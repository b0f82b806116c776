use Rattle.std.proofs.Common.{◌≡◌, drop}
use Rattle.upi_audit.specs.calls.Steps.{after_line}
use Rattle.upi_audit.proofs.closing.after_line.Given as goal

abbrev pub invariant-loop-i : goal.invariant-loop-i
invariant-loop-i l = after_line (drop l.i l.text) ≡ after_line l.text
