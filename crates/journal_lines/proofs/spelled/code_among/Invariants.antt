use Rattle.std.proofs.Common.{◌≡◌, drop}
use Rattle.upi_base.specs.Lists.{pick}
use Rattle.upi_text.specs.Pieces.{code_text}
use Rattle.journal_lines.specs.Spelled.{if_spelled}
use Rattle.journal_lines.proofs.spelled.code_among.Given as goal

abbrev pub invariant-loop-code : goal.invariant-loop-code
invariant-loop-code l = pick (if_spelled code_text l.word) (drop l.code-index l.codes) ≡ pick (if_spelled code_text l.word) l.codes
