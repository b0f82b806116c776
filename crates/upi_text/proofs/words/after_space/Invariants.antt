use Rattle.std.proofs.Common.{◌≡◌, drop}
use Rattle.upi_text.specs.Words.{after_space}
use Rattle.upi_text.proofs.words.after_space.Given as goal

abbrev pub invariant-loop-i : goal.invariant-loop-i
invariant-loop-i l = after_space (drop l.i l.line) ≡ after_space l.line
