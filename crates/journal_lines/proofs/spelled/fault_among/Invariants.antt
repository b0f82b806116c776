use Rattle.std.proofs.Common.{◌≡◌, drop}
use Rattle.upi_base.specs.Lists.{pick}
use Rattle.upi_text.specs.Pieces.{fault_text}
use Rattle.journal_lines.specs.Spelled.{if_spelled}
use Rattle.journal_lines.proofs.spelled.fault_among.Given as goal

abbrev pub invariant-loop-fault : goal.invariant-loop-fault
invariant-loop-fault l = pick (if_spelled fault_text l.word) (drop l.fault-index l.faults) ≡ pick (if_spelled fault_text l.word) l.faults
