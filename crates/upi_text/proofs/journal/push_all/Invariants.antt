use Rattle.std.proofs.Common.{◌≡◌, ◌+◌, ◌++◌, drop}
use Rattle.upi_text.specs.Journal.{sent_lines}
use Rattle.upi_text.proofs.journal.push_all.Given as goal

abbrev pub invariant-loop-message : goal.invariant-loop-message
invariant-loop-message l = record { count : l.n ≡ l.first + l.message-index; text : l.out.items ++ sent_lines l.n (drop l.message-index l.sent) ≡ l.initial.out.items ++ sent_lines l.first l.sent }
