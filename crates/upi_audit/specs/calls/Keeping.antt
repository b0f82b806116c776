-- What an audit keeps, and of which journal that is.
use Rattle.std.specs.Prelude.{ℕ, ◌≡◌, ◌+◌, ◌⊎◌, Bool, true, false, List, [], ◌∷◌, ◌++◌, length, Option, Some, None}
use Rattle.upi_words.specs.Prelude.{AuditWhy, Entry, History, Legal, Setup, Text, Verdict, is_closed}
use Rattle.upi_model.specs.Chronicle.{Chronicle}
use Rattle.upi_model.specs.History.{sent_count}
use Rattle.upi_text.specs.Setup.{SetupState}
use Rattle.caller_laws.specs.CallerLaws.{DifferInCallers}
use Rattle.upi_audit.specs.Journal.{Lined, Journal}
use Rattle.upi_audit.specs.Lines.{lines_in}
use Rattle.upi_audit.specs.Verdict.{message_lines, said_of, lines_of, AreOf, reported_lines, IsLineFault, IsFirstSpoiled, JudgesJournal}
use Rattle.upi_audit.specs.declared.wrong.Wrong.{Wrong}

-- of the report that is due: what is still to come, and how many lines have come
pub record Due : Type 0 where
  pub rest : Text
  pub lines : ℕ

-- What is kept after OPEN: the switch that plays the calls, how many entries and messages were read, what is wrong first, and after REPORT the report that is due. Where something is wrong, the switch and the messages don't count any more.
pub record Bench : Type 0 where
  pub core : Chronicle
  pub entries : ℕ
  pub matched : ℕ
  pub wrong : Option Wrong
  pub due : Option Due

-- what an audit keeps: the setup as far as it was read, or what it keeps after OPEN; and whether memory has failed
pub record AuditState : Type 0 where
  pub setup : SetupState
  pub bench : Option Bench
  pub failed : Bool

-- The lines of a history, of whose latest entry M lines may still be due: those that were read, and those to come. So many messages were read in all.
pub record Awaits (e : Entry) (before : History) (ls : List Lined) (matched : ℕ) : Type 0 where
  pub read : List Text
  pub rest : List Text
  pub lines : ls ≡ record { said = said_of before e; messages = read } ∷ lines_of before
  pub whole : read ++ rest ≡ message_lines (sent_count before + 1) e.sent
  pub count : matched ≡ sent_count before + length read

-- the same, of any history
abbrev pub IsAwaited : History → List Lined → ℕ → Type 0
IsAwaited [] ls matched = (ls ≡ []) × (matched ≡ 0)
IsAwaited (e ∷ before) ls matched = Awaits e before ls matched

-- nothing is wrong so far: the lines are those of a legal history, which the switch has played as one caller's
pub record IsGoing (S : Setup) (ls : List Lined) (played : History) (matched : ℕ) : Type 0 where
  pub history : History
  pub legal : Legal S history
  pub same : DifferInCallers history played
  pub awaited : IsAwaited history ls matched

-- the latest entry is wrong, whatever M lines follow
pub record IsWrongNow (S : Setup) (l : Lined) (ls : List Lined) (place : ℕ) (why : AuditWhy) : Type 0 where
  pub before : History
  pub lines : ls ≡ lines_of before
  pub placed : place ≡ length before + 1
  pub legal : Legal S before
  pub fault : (more : List Text) → IsLineFault S before (record { said = l.said; messages = l.messages ++ more }) why

-- an entry is wrong: one before the latest, or that
abbrev pub IsWrong : Setup → List Lined → ℕ → AuditWhy → Type 0
IsWrong S [] place why = ⊥
IsWrong S (l ∷ ls) place why = IsFirstSpoiled S ls place why ⊎ IsWrongNow S l ls place why

-- what is known before REPORT
abbrev pub IsJudged : Setup → List Lined → History → ℕ → Option Wrong → Type 0
IsJudged S ls played matched None = IsGoing S ls played matched
IsJudged S ls played matched (Some w) = IsWrong S ls w.place w.why

-- nothing is wrong so far, and these are the first lines of the report
pub record IsReporting (S : Setup) (ls : List Lined) (report : List Text) (due : Due) : Type 0 where
  pub history : History
  pub lines : AreOf S ls history
  pub closed : is_closed history ≡ true
  pub rest : reported_lines S history ≡ report ++ lines_in due.rest
  pub count : due.lines ≡ length report

-- what is known after REPORT: what is wrong is the verdict, whatever lines follow
abbrev pub IsEnding : Setup → List Lined → List Text → Due → Option Wrong → Type 0
IsEnding S ls report due None = IsReporting S ls report due
IsEnding S ls report due (Some w) = (more : List Text) → JudgesJournal S ls (report ++ more) (Verdict.No w.place w.why)

-- what is known, before REPORT and after it
abbrev pub IsKnownOf : Setup → List Lined → Option (List Text) → Bench → Option Due → Type 0
IsKnownOf S ls None b None = IsJudged S ls b.core.history b.matched b.wrong
IsKnownOf S ls (Some report) b (Some due) = IsEnding S ls report due b.wrong
IsKnownOf S ls None b (Some due) = ⊥
IsKnownOf S ls (Some report) b None = ⊥

-- this is kept of a journal after OPEN
pub record IsBenchOf (j : Journal) (b : Bench) : Type 0 where
  pub opened : j.setup.is_open ≡ true
  pub setup : b.core.setup ≡ j.setup.lines
  pub entries : b.entries ≡ length j.entries
  pub known : IsKnownOf b.core.setup j.entries j.report b b.due

-- this is kept of a journal
abbrev pub IsKept : Journal → SetupState → Option Bench → Type 0
IsKept j S None = j ≡ record { setup = S; entries = []; report = None }
IsKept j S (Some b) = IsBenchOf j b

-- the audit has read the journal, and there was memory
abbrev pub HasRead : Journal → AuditState → Type 0
HasRead j a = (a.failed ≡ false) × IsKept j a.setup a.bench

-- the setup is still being read, or there is a switch
abbrev pub IsOpenedOnce : SetupState → Option Bench → Type 0
IsOpenedOnce S None = S.is_open ≡ false
IsOpenedOnce S (Some b) = Unit {0}
