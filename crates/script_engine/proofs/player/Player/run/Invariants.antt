use Rattle.std.proofs.Common.{◌-◌}
use Rattle.script_engine.specs.Play.{run_turns, run_all}
use Rattle.script_engine.specs.calls.Tries.{IsAhead}
use Rattle.script_engine.proofs.player.Player.run.Given as goal

abbrev pub invariant-loop-turn : goal.invariant-loop-turn
invariant-loop-turn l = IsAhead (run_all l.k l.r l.initial.self) l.initial.out.items l.out.items (run_turns l.k l.r (2_097_153 - l._turn) l.self)
