use Rattle.std.proofs.Common.{◌-◌}
use Rattle.upi_words.specs.Prelude.{Call}
use Rattle.script_engine.specs.Play.{try_calls, many}
use Rattle.script_engine.specs.calls.Tries.{IsAhead}
use Rattle.script_engine.proofs.player.Player.repeat.Given as goal

abbrev pub invariant-loop-time : goal.invariant-loop-time
invariant-loop-time l = IsAhead (try_calls (many l.times (Call.Deliver l.n)) l.initial.self) l.initial.out.items l.out.items (try_calls (many (l.times - l._time) (Call.Deliver l.n)) l.self)
