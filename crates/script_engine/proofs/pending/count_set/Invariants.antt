use Rattle.script_engine.specs.calls.Marks.{AreSet}
use Rattle.script_engine.proofs.pending.count_set.Given as goal

abbrev pub invariant-loop-i : goal.invariant-loop-i
invariant-loop-i l = AreSet l.marks l.i
