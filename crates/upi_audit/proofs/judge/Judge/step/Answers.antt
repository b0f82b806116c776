use Rattle.std.proofs.Common.{◌≡◌, Ok, ◌∙◌, ap, subst}
use Rattle.journal_lines.specs.Lines.{line_read}
use Rattle.journal_lines.specs.declared.line.JournalLine.{JournalLine}
use Rattle.upi_audit.specs.calls.Keeping.{Bench}
use Rattle.upi_audit.specs.calls.Steps.{StepAnswer}
use Rattle.upi_audit.proofs.judge.Judge.step.Goals as goal

pub returns-in_ok-entry-in-Entry : goal.returns-in_ok-entry-in-Entry
returns-in_ok-entry-in-Entry c =
    let line = c.args.line.now in
    let read : line_read c.self.inside.entries line ≡ Ok (JournalLine.Entry c.in-Entry.entry) = c.in_ok-line.ensures ∙ ap Ok c.in-Entry.is in
    subst (λ (b : Bench). (l : JournalLine) × (line_read b.entries line ≡ Ok l) × StepAnswer b line c.entry.new.self l) c.self.view_is
    (JournalLine.Entry c.in-Entry.entry, read, c.in_ok-entry-in-Entry.ensures)
