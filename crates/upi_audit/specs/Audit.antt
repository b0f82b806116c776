-- What an audit answers.
use Rattle.std.specs.Prelude.{◌≡◌, true, List, Some, None, Result, Ok, Err}
use Rattle.upi_words.specs.Prelude.{Text, Verdict, Why}
use Rattle.upi_base.specs.declared.fault.EngineFault.{EngineFault}
use Rattle.upi_text.specs.Refusals.{refusal}
use Rattle.upi_audit.specs.Journal.{Journal, with_line}
use Rattle.upi_audit.specs.Verdict.{JudgesJournal}
use Rattle.upi_audit.specs.calls.Keeping.{AuditState, HasRead}

-- The line is read, and the audit then has read the journal with it; or it is refused for the reason that is defined, and changes nothing; or there was no memory.
abbrev pub AuditLineAnswer : Journal → AuditState → Text → AuditState → Result (Unit {0}) EngineFault → Type 0
AuditLineAnswer j old line new (Ok u) = (k : Journal) × (with_line j line ≡ Ok k) × HasRead k new
AuditLineAnswer j old line new (Err (EngineFault.Bad field why)) = (with_line j line ≡ Err (refusal field why)) × (new ≡ old)
AuditLineAnswer j old line new (Err EngineFault.NoMemory) = new.failed ≡ true

-- whichever journal was read, so a line of it is answered
abbrev pub ReadsLine : AuditState → Text → AuditState → Result (Unit {0}) EngineFault → Type 0
ReadsLine old line new result = (j : Journal) → HasRead j old → AuditLineAnswer j old line new result

-- The verdict that is defined; or REPORT wasn't read, nor where OPEN wasn't.
abbrev pub VerdictAnswer : Journal → Result Verdict EngineFault → Type 0
VerdictAnswer j (Ok verdict) = (report : List Text) × (j.report ≡ Some report) × JudgesJournal j.setup.lines j.entries report verdict
VerdictAnswer j (Err (EngineFault.Bad field why)) = (j.report ≡ None) × (field ≡ 0) × (why ≡ Why.End)
VerdictAnswer j (Err EngineFault.NoMemory) = ⊥

-- whichever journal was read, so its end is answered
abbrev pub ReadsEnd : AuditState → Result Verdict EngineFault → Type 0
ReadsEnd a result = (j : Journal) → HasRead j a → VerdictAnswer j result

-- an audit for which there was no memory answers so for good, and changes nothing
abbrev pub StaysFailed : AuditState → AuditState → Result (Unit {0}) EngineFault → Type 0
StaysFailed old new result = old.failed ≡ true → (result ≡ Err EngineFault.NoMemory) × (new ≡ old)
