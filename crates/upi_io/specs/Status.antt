-- How a top call ends: its exit code and its line on standard error.
use Rattle.std.specs.Prelude.{ℕ, List, [], ◌∷◌, ◌++◌, codes}
use Rattle.std.specs.Fmt.{decimal}
use Rattle.upi_base.specs.declared.fault.Why.{Why}
use Rattle.upi_base.specs.declared.fault.Why.TheVariants as why
use Rattle.upi_base.specs.declared.settled.AuditWhy.{AuditWhy}
use Rattle.upi_base.specs.declared.settled.AuditWhy.TheVariants as wrong
use Rattle.upi_io.specs.declared.status.Status.{Status}
use Rattle.upi_io.specs.declared.status.Status.TheVariants as status

abbrev pub status_code : Status → ℕ
status_code status.Done = 0
status_code status.Usage = 2
status_code (status.BadLine line field w) = 3
status_code (status.TooLong line) = 3
status_code status.ReadFault = 4
status_code status.WriteFault = 5
status_code status.NoMemory = 6
status_code (status.AuditNo entry w) = 7

abbrev pub why_name : Why → List ℕ
why_name why.Utf8 = codes "UTF8"
why_name why.Word = codes "WORD"
why_name why.Fields = codes "FIELDS"
why_name why.Value = codes "VALUE"
why_name why.Twice = codes "TWICE"
why_name why.NoBank = codes "NOBANK"
why_name why.NoPsp = codes "NOPSP"
why_name why.NoAccount = codes "NOACCOUNT"
why_name why.Limit = codes "LIMIT"
why_name why.End = codes "END"

abbrev pub audit_why_name : AuditWhy → List ℕ
audit_why_name wrong.Call = codes "CALL"
audit_why_name wrong.Reply = codes "REPLY"
audit_why_name wrong.Sent = codes "SENT"
audit_why_name wrong.NoClose = codes "NOCLOSE"
audit_why_name wrong.Report = codes "REPORT"

-- `upi: line L: word F: WHY`, then LF
abbrev pub bad_line_text : ℕ → ℕ → Why → List ℕ
bad_line_text line field w = codes "upi: line " ++ decimal line ++ codes ": word " ++ decimal field ++ codes ": " ++ why_name w ++ 10 ∷ []

-- `upi: line L: too long`, then LF
abbrev pub long_line_text : ℕ → List ℕ
long_line_text line = codes "upi: line " ++ decimal line ++ codes ": too long" ++ 10 ∷ []

-- `upi: audit: entry E: WHY`, then LF
abbrev pub audit_no_text : ℕ → AuditWhy → List ℕ
audit_no_text entry w = codes "upi: audit: entry " ++ decimal entry ++ codes ": " ++ audit_why_name w ++ 10 ∷ []

-- the line on standard error, with its LF, or nothing
abbrev pub status_text : Status → List ℕ
status_text status.Done = []
status_text status.Usage = codes "upi: usage" ++ 10 ∷ []
status_text (status.BadLine line field w) = bad_line_text line field w
status_text (status.TooLong line) = long_line_text line
status_text status.ReadFault = codes "upi: read fault" ++ 10 ∷ []
status_text status.WriteFault = codes "upi: write fault" ++ 10 ∷ []
status_text status.NoMemory = codes "upi: no memory" ++ 10 ∷ []
status_text (status.AuditNo entry w) = audit_no_text entry w
