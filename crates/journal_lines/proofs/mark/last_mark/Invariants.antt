use Rattle.std.proofs.Common.{◌≡◌, ◌≤◌, None, drop, length}
use Rattle.journal_lines.specs.Marks.{last_mark}
use Rattle.journal_lines.proofs.mark.last_mark.Given as goal

abbrev pub invariant-back : goal.invariant-back
invariant-back l = (last_mark (drop l.at l.line) ≡ None) × (l.at ≤ length l.line)

abbrev pub decreases-back : goal.decreases-back
decreases-back l = l.at
