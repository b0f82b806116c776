use Rattle.std.proofs.Common.{◌≡◌, drop}
use Rattle.std.specs.List.{list_all}
use Rattle.upi_base.proofs.classes.is_all.Given as goal

abbrev pub invariant-loop-c : goal.invariant-loop-c
invariant-loop-c g l = list_all g.C.Class.has l.text ≡ list_all g.C.Class.has (drop l.c-index l.text)
