-- What holds of verdicts.
use Rattle.std.specs.Prelude.{◌≡◌, true, ◌↔◌, List}
use Rattle.upi_words.specs.Prelude.{History, Setup, Text, Verdict}
use Rattle.upi_model.specs.Verdicts.{is_yes}
use Rattle.upi_audit.specs.Journal.{Lined}
use Rattle.upi_audit.specs.Verdict.{IsRight, JudgesJournal}

-- the lines and the report are those of some legal history that is closed
abbrev pub IsRightSomehow : Setup → List Lined → List Text → Type 0
IsRightSomehow S ls report = (h : History) × IsRight S ls report h

-- a verdict says yes exactly where the journal is right
abbrev pub AuditIsExact : Type 0
AuditIsExact = (S : Setup) (ls : List Lined) (report : List Text) (v : Verdict) → JudgesJournal S ls report v → (is_yes v ≡ true) ↔ IsRightSomehow S ls report
