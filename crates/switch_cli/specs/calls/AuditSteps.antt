-- What the steps of an audit do.
use Rattle.std.specs.Prelude.{◌≡◌, ◌⊎◌, ℕ, ◌+◌, List, length, Option, Result, Ok, Err}
use Rattle.std.specs.Io.KnownBytes.{Appends}
use Rattle.upi_words.specs.Prelude.{Text, Verdict}
use Rattle.upi_base.specs.declared.fault.EngineFault.{EngineFault}
use Rattle.upi_io.specs.declared.lines.Line.{Line}
use Rattle.upi_io.specs.declared.status.Status.{Status}
use Rattle.load_commands.specs.Outputs.{WritesFront}
use Rattle.upi_audit.specs.Audit.{ReadsLine, ReadsEnd}
use Rattle.upi_audit.specs.Journal.{Journal}
use Rattle.upi_audit.specs.Written.{verdict_text}
use Rattle.upi_audit.specs.calls.Keeping.{AuditState, HasRead}
use Rattle.switch_cli.specs.Lines.{AreRead}
use Rattle.switch_cli.specs.Audits.{journal_of, verdict_status}
use Rattle.switch_cli.specs.calls.Steps.{Finds, IsAhead, play_status, read_status}
use Rattle.switch_cli.specs.declared.audit.Halt.{Halt}

-- what was found is taken: a line is read, and the end changes nothing
abbrev pub Takes : AuditState → Line → Text → AuditState → Result (Unit {0}) EngineFault → Type 0
Takes old Line.Got line new r = ReadsLine old line new r
Takes old Line.End line new (Ok u) = new ≡ old
Takes old Line.End line new (Err fault) = ⊥

-- a step at the line after so many is done, or stops the audit
abbrev pub AuditSteps : ℕ → Option Text → Option Text → Option Text → Text → AuditState → AuditState → Result Line Halt → Type 0
AuditSteps n ahead rest left line old new (Ok found) = Finds n ahead rest left line (Ok found) × Takes old found line new (Ok tt)
AuditSteps n ahead rest left line old new (Err (Halt.Read fault)) = Finds n ahead rest left line (Err fault)
AuditSteps n ahead rest left line old new (Err (Halt.Take fault)) = (found : Line) × Finds n ahead rest left line (Ok found) × Takes old found line new (Err fault)

-- how an audit ends that stops at the line of this number
abbrev pub halt_status : ℕ → Halt → Status
halt_status line (Halt.Read fault) = read_status line fault
halt_status line (Halt.Take fault) = play_status line fault

-- a verdict is written; or a front of it, where the sink failed; or there was no memory, and nothing was written
abbrev pub Tells : Verdict → Option Text → Option Text → Status → Type 0
Tells v before after s = ((s ≡ verdict_status v) × Appends before after (verdict_text v)) ⊎ (((s ≡ Status.WriteFault) × WritesFront (verdict_text v) before after) ⊎ ((s ≡ Status.NoMemory) × (after ≡ before)))

-- what an audit answers at the end is told; where it is refused, the line of this number is missing
abbrev pub TellsAnswer : ℕ → Result Verdict EngineFault → Option Text → Option Text → Status → Type 0
TellsAnswer line (Ok v) before after s = Tells v before after s
TellsAnswer line (Err fault) before after s = (s ≡ play_status line fault) × (after ≡ before)

-- an audit ends
pub record Closes (a : AuditState) (line : ℕ) (before after : Option Text) (s : Status) : Type 0 where
  pub answer : Result Verdict EngineFault
  pub ends : ReadsEnd a answer
  pub told : TellsAnswer line answer before after s

-- ---- from step to step

-- So many lines were read, which an audit has read.
pub record Auditing (source ahead : Option Text) (a : AuditState) (n : ℕ) : Type 0 where
  pub texts : List Text
  pub journal : Journal
  pub count : length texts ≡ n
  pub reads : journal_of texts ≡ Ok journal
  pub kept : HasRead journal a
  pub read : AreRead source texts (IsAhead ahead)
