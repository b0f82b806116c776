use Rattle.std.proofs.Common.{◌≡◌, ◌+◌, drop}
use Rattle.std.specs.List.{prefix_len}
use Rattle.upi_base.proofs.classes.run.Given as goal

-- the bytes passed, and those that follow
abbrev pub invariant-loop-place : goal.invariant-loop-place
invariant-loop-place g l = prefix_len g.C.Class.has l.text ≡ l.place + prefix_len g.C.Class.has (drop l.place l.text)
