-- The lines of a journal after OPEN, up to REPORT.
use Rattle.std.specs.Prelude.{ℕ, ◌==◌, Bool, not, if◌then◌else◌, List, length, codes, Option, Some, None, Result, Ok, Err}
use Rattle.std.specs.Str.{bytes_eq, is_utf8}
use Rattle.upi_words.specs.Prelude.{Text}
use Rattle.upi_text.specs.Words.{is_skipped, words, word_at}
use Rattle.upi_text.specs.Refusals.{◌>>=◌, not_utf8, no_command, other_fields}
use Rattle.upi_text.specs.declared.refusal.Refusal.{Refusal}
use Rattle.journal_lines.specs.Messages.{message_read}
use Rattle.journal_lines.specs.Entries.{entry_read}
use Rattle.journal_lines.specs.declared.entry.EntryLine.{EntryLine}
use Rattle.journal_lines.specs.declared.line.LineWord.{LineWord}
use Rattle.journal_lines.specs.declared.line.JournalLine.{JournalLine}

-- the first word of a line
unfoldable pub line_word : Text → Option LineWord
line_word word =
    if bytes_eq word (codes "E") then Some LineWord.Entry
    else if bytes_eq word (codes "M") then Some LineWord.Message
    else if bytes_eq word (codes "REPORT") then Some LineWord.Report
    else None

-- an M line; none stands before the first E line
unfoldable pub message_after : ℕ → Text → Result JournalLine Refusal
message_after entries text = if entries == 0 then Err no_command else (message_read (words text) >>= λ u. Ok JournalLine.Message)

-- `REPORT`
unfoldable pub report_read : Text → Result JournalLine Refusal
report_read text = if length (words text) == 1 then Ok JournalLine.Report else Err other_fields

-- what a line says, by its first word
abbrev pub line_of : ℕ → Text → Option LineWord → Result JournalLine Refusal
line_of entries text (Some LineWord.Entry) = entry_read entries text >>= λ (e : EntryLine). Ok (JournalLine.Entry e)
line_of entries text (Some LineWord.Message) = message_after entries text
line_of entries text (Some LineWord.Report) = report_read text
line_of entries text None = Err no_command

-- what a line says after so many entries, or the first reason for which it is refused
abbrev pub line_read : ℕ → Text → Result JournalLine Refusal
line_read entries text =
    if is_skipped text then Ok JournalLine.Skipped
    else if not (is_utf8 text) then Err not_utf8
    else line_of entries text (line_word (word_at 0 (words text)))
