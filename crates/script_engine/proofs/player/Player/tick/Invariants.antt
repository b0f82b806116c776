use Rattle.std.proofs.Common.{drop}
use Rattle.script_engine.specs.Play.{try_calls, lates, tick}
use Rattle.script_engine.specs.calls.Tries.{IsAhead}
use Rattle.script_engine.proofs.player.Player.tick.Given as goal

abbrev pub invariant-loop-late : goal.invariant-loop-late
invariant-loop-late l = IsAhead (tick l.fn.moment l.fn.self) l.initial.out.items l.out.items (try_calls (lates (drop l.late-index l.late-items)) l.self)
