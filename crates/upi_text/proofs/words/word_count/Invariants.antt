use Rattle.std.proofs.Common.{◌≡◌, ◌≤◌, ◌+◌, drop, length}
use Rattle.upi_text.specs.Words.{later_words}
use Rattle.upi_text.proofs.words.word_count.Given as goal

abbrev pub invariant-loop-c : goal.invariant-loop-c
invariant-loop-c l = record { count : l.spaces + length (later_words (drop l.c-index l.line)) ≡ length (later_words l.line); within : l.spaces ≤ l.c-index }
