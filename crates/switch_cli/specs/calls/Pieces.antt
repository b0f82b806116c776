-- The text of a run goes out in pieces: what is kept back between them, and what a write leaves that fails within one.
use Rattle.std.specs.Prelude.{◌≡◌, ◌⊎◌, ℕ, ◌<◌, ◌≤◌, Bool, false, List, [], ◌++◌, length, take, Option, Result, Ok, Err}
use Rattle.std.specs.Io.KnownBytes.{Appends}
use Rattle.upi_words.specs.Prelude.{Text}
use Rattle.upi_io.specs.Lines.{ReaderState, holds_line}
use Rattle.upi_io.specs.declared.lines.TheConstants.{MAX_LINES}
use Rattle.upi_io.specs.declared.sink.Wrote.{Wrote}
use Rattle.upi_io.specs.declared.status.Status.{Status}
use Rattle.script_engine.specs.Play.{Play, Played, play}
use Rattle.switch_cli.specs.Lines.{AreRead}
use Rattle.switch_cli.specs.Run.{IsTrusted, StopsInLine, Ran}
use Rattle.switch_cli.specs.calls.Steps.{IsAhead}

-- Nothing is kept back where the source has to be asked for the next line.
abbrev pub IsOut : ReaderState → Text → Type 0
IsOut reader kept = holds_line reader ≡ false → kept ≡ []

-- a front of a text was written, and not all of it
pub record WritesFront (before after : Option Text) (text : Text) : Type 0 where
  pub count : ℕ
  pub short : count < length text
  pub wrote : Appends before after (take count text)

-- What is kept back stays so, or was written; or a front of it was, where that failed.
abbrev pub HandsOn : Option Text → Option Text → Text → Text → Result (Unit {0}) Wrote → Type 0
HandsOn before after kept new (Ok u) = ((after ≡ before) × (new ≡ kept)) ⊎ (Appends before after kept × (new ≡ []))
HandsOn before after kept new (Err w) = WritesFront before after kept × (new ≡ [])

-- A run ends so once what is kept back is written; and where only a front of that is written, it ends by a write fault.
pub record Leaves (source left before after : Option Text) (kept : Text) (s : Status) : Type 0 where
  pub all : (now : Option Text) → Appends after now kept → Ran source left before now s
  pub front : (now : Option Text) → WritesFront after now kept → Ran source left before now Status.WriteFault

-- ---- from step to step

-- A text is what some lines wrote that were played, and a front of what the next line writes.
pub record IsCut (source : Option Text) (text : Text) : Type 0 where
  pub texts : List Text
  pub played : Played
  pub few : length texts ≤ MAX_LINES
  pub plays : play texts ≡ Ok played
  pub trusted : IsTrusted played.play
  pub part : Text
  pub is : text ≡ played.text ++ part
  pub stops : StopsInLine source texts played.play part

-- wherever a text is cut off
abbrev pub AllCuts : Option Text → Text → Type 0
AllCuts source text = (k : ℕ) → k < length text → IsCut source (take k text)

-- So many lines were read and played to p. Their text was written, but for what is kept back of it.
pub record Going (source ahead : Option Text) (p : Play) (n : ℕ) (before after : Option Text) (kept : Text) : Type 0 where
  pub texts : List Text
  pub out : Text
  pub count : length texts ≡ n
  pub plays : play texts ≡ Ok (record { play = p; text = out ++ kept })
  pub wrote : Appends before after out
  pub read : AreRead source texts (IsAhead ahead)
  pub cuts : AllCuts source (out ++ kept)
