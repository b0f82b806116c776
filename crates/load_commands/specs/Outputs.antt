-- What the commands of loads write, and how they end.
use Rattle.std.specs.Prelude.{◌≡◌, ℕ, ◌<◌, length, take, Option, Result, Ok, Err}
use Rattle.std.specs.Io.KnownBytes.{Appends}
use Rattle.upi_words.specs.Prelude.{Text}
use Rattle.upi_base.specs.declared.settled.Summary.{Summary}
use Rattle.upi_io.specs.declared.status.Status.{Status}
use Rattle.load_generator.specs.Loads.{generated}
use Rattle.load_run.specs.declared.run.LoadFault.{LoadFault}
use Rattle.load_run.specs.Summaries.{LoadAnswer, summary_text}

-- a front of a text was written, and not all of it
pub record WritesFront (text : Text) (before after : Option Text) : Type 0 where
  pub count : ℕ
  pub short : count < length text
  pub wrote : Appends before after (take count text)

-- All is done, and the text was written; or the sink failed, and a front of it was; or there was no memory, and nothing was.
abbrev pub Gives : Text → Option Text → Option Text → Status → Type 0
Gives text before after Status.Done = Appends before after text
Gives text before after Status.Usage = ⊥
Gives text before after (Status.BadLine line field w) = ⊥
Gives text before after (Status.TooLong line) = ⊥
Gives text before after Status.ReadFault = ⊥
Gives text before after Status.WriteFault = WritesFront text before after
Gives text before after Status.NoMemory = after ≡ before
Gives text before after (Status.AuditNo entry w) = ⊥

-- What writing a load does: it gives the text that is defined.
abbrev pub Generates : ℕ → ℕ → Option Text → Option Text → Status → Type 0
Generates count seed before after s = Gives (generated count seed) before after s

-- How running a load ends: with the line that sums it up; or one of its lines is refused, or there was no memory, and nothing was written.
abbrev pub LoadEnds : ℕ → ℕ → Result Summary LoadFault → Option Text → Option Text → Status → Type 0
LoadEnds count seed (Ok summary) before after s = Gives (summary_text count seed summary) before after s
LoadEnds count seed (Err (LoadFault.Refused line field w)) before after s = (s ≡ Status.BadLine line field w) × (after ≡ before)
LoadEnds count seed (Err LoadFault.NoMemory) before after s = (s ≡ Status.NoMemory) × (after ≡ before)

-- What running a load does: what its lines play to is summed up, and told.
pub record Loads (count seed : ℕ) (before after : Option Text) (s : Status) : Type 0 where
  pub answer : Result Summary LoadFault
  pub sums_up : LoadAnswer count seed answer
  pub ends : LoadEnds count seed answer before after s
