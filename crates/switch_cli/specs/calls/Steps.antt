-- What the steps of a run do.
use Rattle.std.specs.Prelude.{◌≡◌, ℕ, ◌++◌, if◌then◌else◌, Option, Some, Result, Ok, Err}
use Rattle.std.specs.Io.KnownBytes.{IsAtEnd}
use Rattle.upi_words.specs.Prelude.{Why, Text}
use Rattle.upi_base.specs.declared.fault.EngineFault.{EngineFault}
use Rattle.upi_io.specs.Lines.{AnswersAhead, IsCutOff, IsNumbered}
use Rattle.upi_io.specs.declared.lines.Line.{Line}
use Rattle.upi_io.specs.declared.lines.LineFault.{LineFault}
use Rattle.upi_io.specs.declared.status.Status.{Status}
use Rattle.upi_text.specs.Refusals.{refusal}
use Rattle.upi_text.specs.declared.refusal.Refusal.{Refusal}
use Rattle.script_engine.specs.Play.{Play, Played, play_line}
use Rattle.script_engine.specs.End.{finished}
use Rattle.switch_cli.specs.declared.script.Stop.{Stop}

-- ---- one step: the next line is read and played; at the end the end is played

-- what a reader answers after so many lines, with what is ahead before it and after it, and what the source has left
pub record Finds (n : ℕ) (ahead after left : Option Text) (line : Text) (r : Result Line LineFault) : Type 0 where
  pub answer : AnswersAhead n ahead after line r
  pub number : IsNumbered n r
  pub cut : r ≡ Err LineFault.ReadFault → IsCutOff ahead left line
  pub over : r ≡ Ok Line.End → IsAtEnd left

-- the end, played; it comes too soon where OPEN wasn't read
abbrev pub end_of : Play → Result Played Refusal
end_of p = if p.setup.is_open then Ok (finished p) else Err (refusal 0 Why.End)

-- what was found, played
abbrev pub played_next : Play → Text → Line → Result Played Refusal
played_next p text Line.Got = play_line p text
played_next p text Line.End = end_of p

-- an engine plays, by the definition r: its text, behind the one that is kept back, and how it stands then
abbrev pub PlaysAs : Result Played Refusal → Text → Text → Play → Result (Unit {0}) EngineFault → Type 0
PlaysAs r before after new (Ok u) = (q : Played) × (r ≡ Ok q) × (after ≡ before ++ q.text) × (new ≡ q.play)
PlaysAs r before after new (Err (EngineFault.Bad field why)) = (r ≡ Err (refusal field why)) × (after ≡ before)
PlaysAs r before after new (Err EngineFault.NoMemory) = after ≡ before

-- what was played; its text is kept back, behind the one that was
pub record Plays (p : Play) (line : Text) (found : Line) (before after : Text) (new : Play) : Type 0 where
  pub played : Played
  pub plays : played_next p line found ≡ Ok played
  pub kept : after ≡ before ++ played.text
  pub becomes : new ≡ played.play

-- a step at the line after so many is done, or stops the run
abbrev pub Steps : ℕ → Option Text → Option Text → Option Text → Text → Play → Text → Text → Play → Result Line Stop → Type 0
Steps n ahead rest left line p before after new (Ok found) = Finds n ahead rest left line (Ok found) × Plays p line found before after new
Steps n ahead rest left line p before after new (Err (Stop.Read fault)) = Finds n ahead rest left line (Err fault) × (after ≡ before)
Steps n ahead rest left line p before after new (Err (Stop.Play (EngineFault.Bad field why))) = (found : Line) × Finds n ahead rest left line (Ok found) × (played_next p line found ≡ Err (refusal field why)) × (after ≡ before)
Steps n ahead rest left line p before after new (Err (Stop.Play EngineFault.NoMemory)) = after ≡ before

-- ---- how a run ends, where a step stops it

-- a line isn't found
abbrev pub read_status : ℕ → LineFault → Status
read_status line (LineFault.TooLong at) = Status.TooLong at
read_status line LineFault.TooMany = Status.BadLine line 0 Why.Limit
read_status line LineFault.ReadFault = Status.ReadFault
read_status line LineFault.NoMemory = Status.NoMemory

-- a line isn't played
abbrev pub play_status : ℕ → EngineFault → Status
play_status line (EngineFault.Bad field w) = Status.BadLine line field w
play_status line EngineFault.NoMemory = Status.NoMemory

-- a step at the line of this number stops the run
abbrev pub status_of : ℕ → Stop → Status
status_of line (Stop.Read fault) = read_status line fault
status_of line (Stop.Play fault) = play_status line fault

-- these bytes are those that are ahead of the reader
abbrev pub IsAhead : Option Text → Text → Type 0
IsAhead ahead rest = ahead ≡ Some rest
