-- A journal that is audited over the lines of a source: what is written, and how it ends.
use Rattle.std.specs.Prelude.{◌≡◌, ◌↔◌, ◌⊎◌, ℕ, ◌+◌, ◌<◌, ◌≤◌, Bool, true, false, List, [], ◌∷◌, length, map, take, Option, Some, None, Result, Ok, Err}
use Rattle.std.specs.List.{list_all}
use Rattle.std.specs.Io.KnownBytes.{Appends}
use Rattle.upi_words.specs.Prelude.{AuditWhy, Text, Verdict, Why}
use Rattle.upi_model.specs.Verdicts.{is_yes}
use Rattle.upi_io.specs.Lines.{raw_lines, text_of}
use Rattle.upi_io.specs.declared.lines.TheConstants.{MAX_LINES}
use Rattle.upi_io.specs.declared.status.Status.{Status}
use Rattle.upi_text.specs.Refusals.{◌>>=◌, refusal}
use Rattle.upi_text.specs.declared.refusal.Refusal.{Refusal}
use Rattle.load_commands.specs.Outputs.{WritesFront}
use Rattle.upi_audit.specs.Journal.{Journal, blank_journal, with_line}
use Rattle.upi_audit.specs.Laws.{IsRightSomehow}
use Rattle.upi_audit.specs.Verdict.{JudgesJournal}
use Rattle.upi_audit.specs.Written.{verdict_text}
use Rattle.switch_cli.specs.Lines.{is_short, AreRead, IsAny, IsOver, IsCutAt, IsNext, IsLong}
use Rattle.switch_cli.specs.Run.{AreTooMany}

-- ---- the journal of lines

-- a journal with these lines more, or why the first that is refused is
abbrev pub with_lines : Journal → List Text → Result Journal Refusal
with_lines j [] = Ok j
with_lines j (l ∷ ls) = with_line j l >>= λ (k : Journal). with_lines k ls

-- the journal that these lines are, or why the first that is refused is
abbrev pub journal_of : List Text → Result Journal Refusal
journal_of ls = with_lines blank_journal ls

-- ---- a verdict

-- This is the verdict over a whole journal: it has a report, and it is right or wrong as the verdict says, with the first entry or the first line of the report that is wrong. It says yes exactly where some legal history makes the journal right.
pub record IsVerdict (j : Journal) (v : Verdict) : Type 0 where
  pub report : List Text
  pub reported : j.report ≡ Some report
  pub judges : JudgesJournal j.setup.lines j.entries report v
  pub exact : (is_yes v ≡ true) ↔ IsRightSomehow j.setup.lines j.entries report

-- how an audit ends with a verdict
abbrev pub verdict_status : Verdict → Status
verdict_status (Verdict.Yes entries) = Status.Done
verdict_status (Verdict.No entry w) = Status.AuditNo entry w

-- whether a run came to the end of its input
abbrev pub is_final : Status → Bool
is_final Status.Done = true
is_final Status.Usage = false
is_final (Status.BadLine line field w) = false
is_final (Status.TooLong line) = false
is_final Status.ReadFault = false
is_final Status.WriteFault = false
is_final Status.NoMemory = false
is_final (Status.AuditNo entry w) = true

-- ---- How it ends, after the lines of `texts` were read, which are those of the journal j. The source had `source` left before, and has `left` now.

-- nothing is left, and this is the verdict
pub record Judges (source left : Option Text) (texts : List Text) (j : Journal) (v : Verdict) : Type 0 where
  pub over : AreRead source texts (IsOver left)
  pub verdict : IsVerdict j v

-- the next line is outside the grammar
pub record IsOutside (source : Option Text) (texts : List Text) (j : Journal) (field : ℕ) (w : Why) : Type 0 where
  pub text : Text
  pub few : length texts < MAX_LINES
  pub next : AreRead source texts (IsNext text)
  pub refused : with_line j text ≡ Err (refusal field w)

-- nothing is left, and REPORT wasn't read
pub record HasNoReport (source left : Option Text) (texts : List Text) (j : Journal) (field : ℕ) (w : Why) : Type 0 where
  pub missing : j.report ≡ None
  pub over : AreRead source texts (IsOver left)
  pub whole : field ≡ 0
  pub ended : w ≡ Why.End

-- a line is refused, there is one line too many, or the end comes too soon
abbrev pub IsNoJournal : Option Text → Option Text → List Text → Journal → ℕ → Why → Type 0
IsNoJournal source left texts j field w = IsOutside source texts j field w ⊎ (AreTooMany source texts field w ⊎ HasNoReport source left texts j field w)

-- What each status means. Only a verdict is written.
abbrev pub AuditEndsBy : Option Text → Option Text → List Text → Journal → Option Text → Option Text → Status → Type 0
AuditEndsBy source left texts j before after Status.Done = (entries : ℕ) × Judges source left texts j (Verdict.Yes entries) × Appends before after (verdict_text (Verdict.Yes entries))
AuditEndsBy source left texts j before after Status.Usage = ⊥
AuditEndsBy source left texts j before after (Status.BadLine line field w) = (after ≡ before) × (line ≡ length texts + 1) × IsNoJournal source left texts j field w
AuditEndsBy source left texts j before after (Status.TooLong line) = (after ≡ before) × (line ≡ length texts + 1) × AreRead source texts (IsLong texts)
AuditEndsBy source left texts j before after Status.ReadFault = (after ≡ before) × AreRead source texts (IsCutAt left)
AuditEndsBy source left texts j before after Status.WriteFault = (v : Verdict) × Judges source left texts j v × WritesFront (verdict_text v) before after
AuditEndsBy source left texts j before after Status.NoMemory = (after ≡ before) × AreRead source texts IsAny
AuditEndsBy source left texts j before after (Status.AuditNo entry w) = Judges source left texts j (Verdict.No entry w) × Appends before after (verdict_text (Verdict.No entry w))

-- What an audit does: it reads lines, and then it ends.
pub record Audits (source left before after : Option Text) (s : Status) : Type 0 where
  -- the lines that were read, and the journal that they are
  pub texts : List Text
  pub journal : Journal
  pub few : length texts ≤ MAX_LINES
  pub reads : journal_of texts ≡ Ok journal
  -- why it ended, and what was written
  pub ends : AuditEndsBy source left texts journal before after s

-- ---- An audit of a whole journal.

-- The lines of these bytes are a journal: none of them is outside the grammar, and REPORT is among them.
pub record IsJournal (bytes : Text) (j : Journal) : Type 0 where
  pub few : length (raw_lines bytes) ≤ MAX_LINES
  pub short : list_all is_short (raw_lines bytes) ≡ true
  pub reads : journal_of (map text_of (raw_lines bytes)) ≡ Ok j
  pub report : List Text
  pub reported : j.report ≡ Some report

-- the verdict is told, and written
pub record IsTold (j : Journal) (before after : Option Text) (s : Status) : Type 0 where
  pub verdict : Verdict
  pub is : IsVerdict j verdict
  pub status : s ≡ verdict_status verdict
  pub wrote : Appends before after (verdict_text verdict)

-- An audit of a journal ends in this alone, or for want of memory.
abbrev pub CompletesAudit : Option Text → Option Text → Option Text → Status → Type 0
CompletesAudit None before after s = Unit {0}
CompletesAudit (Some bytes) before after s = (j : Journal) → IsJournal bytes j → (s ≡ Status.NoMemory) ⊎ IsTold j before after s
