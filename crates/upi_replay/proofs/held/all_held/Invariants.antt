use Rattle.std.proofs.Common.{◌≡◌, ◌++◌, drop}
use Rattle.upi_base.specs.Setup.{accounts}
use Rattle.upi_replay.specs.Comes.{held_by}
use Rattle.upi_replay.proofs.held.all_held.Given as goal

abbrev pub invariant-loop-line : goal.invariant-loop-line
invariant-loop-line l = l.all.items ++ held_by l.replay.setup l.replay.history (accounts (drop l.line-index l.lines)) ≡ held_by l.replay.setup l.replay.history (accounts l.lines)
