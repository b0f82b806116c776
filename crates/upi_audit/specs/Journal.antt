-- A journal, read line by line.
use Rattle.std.specs.Prelude.{if◌then◌else◌, List, [], ◌∷◌, ◌++◌, length, Option, Some, None, Result, Ok, Err}
use Rattle.upi_words.specs.Prelude.{Text}
use Rattle.upi_text.specs.Refusals.{◌>>=◌}
use Rattle.upi_text.specs.Setup.{SetupState, unread, setup_read, state_after}
use Rattle.upi_text.specs.declared.refusal.Refusal.{Refusal}
use Rattle.upi_text.specs.declared.setup.SetupRead.{SetupRead}
use Rattle.journal_lines.specs.Lines.{line_read}
use Rattle.journal_lines.specs.declared.entry.EntryLine.{EntryLine}
use Rattle.journal_lines.specs.declared.line.JournalLine.{JournalLine}

-- what a journal says of an entry: its E line, and the M lines after it, in order
pub record Lined : Type 0 where
  pub said : EntryLine
  pub messages : List Text

-- a journal as far as it was read: its setup, its entries, the latest first, and, where REPORT was read, the lines after that, in order
pub record Journal : Type 0 where
  pub setup : SetupState
  pub entries : List Lined
  pub report : Option (List Text)

-- nothing was read
abbrev pub blank_journal : Journal
blank_journal = record { setup = unread; entries = []; report = None }

-- an M line stands with the latest entry
abbrev pub with_message : Text → List Lined → List Lined
with_message text [] = []
with_message text (l ∷ before) = record { said = l.said; messages = l.messages ++ text ∷ [] } ∷ before

-- the journal with a line between OPEN and REPORT that says this
abbrev pub line_taken : Journal → Text → JournalLine → Journal
line_taken j text JournalLine.Skipped = j
line_taken j text (JournalLine.Entry e) = record { setup = j.setup; entries = record { said = e; messages = [] } ∷ j.entries; report = j.report }
line_taken j text JournalLine.Message = record { setup = j.setup; entries = with_message text j.entries; report = j.report }
line_taken j text JournalLine.Report = record { setup = j.setup; entries = j.entries; report = Some [] }

-- the journal with a line after OPEN, or why that is refused; after REPORT a line is taken as it is
abbrev pub line_after_open : Journal → Text → Option (List Text) → Result Journal Refusal
line_after_open j text None = line_read (length j.entries) text >>= λ (l : JournalLine). Ok (line_taken j text l)
line_after_open j text (Some lines) = Ok (record { setup = j.setup; entries = j.entries; report = Some (lines ++ text ∷ []) })

-- the journal with a line of its setup, or why that is refused
abbrev pub line_before_open : Journal → Text → Result Journal Refusal
line_before_open j text = setup_read j.setup text >>= λ (r : SetupRead). Ok (record { setup = state_after j.setup r; entries = j.entries; report = j.report })

-- the journal with one line more, or why the line is refused
abbrev pub with_line : Journal → Text → Result Journal Refusal
with_line j text = if j.setup.is_open then line_after_open j text j.report else line_before_open j text
