use Rattle.std.proofs.Common.{◌≡◌, drop}
use Rattle.upi_base.specs.Lists.{pick}
use Rattle.upi_text.specs.Pieces.{leg_text}
use Rattle.journal_lines.specs.Spelled.{if_spelled}
use Rattle.journal_lines.proofs.spelled.leg_among.Given as goal

abbrev pub invariant-loop-leg : goal.invariant-loop-leg
invariant-loop-leg l = pick (if_spelled leg_text l.word) (drop l.leg-index l.legs) ≡ pick (if_spelled leg_text l.word) l.legs
