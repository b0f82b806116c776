-- A script that is run over the lines of a source: what is written, and how it ends.
use Rattle.std.specs.Prelude.{◌≡◌, ◌⊎◌, ℕ, ◌+◌, ◌<◌, ◌≤◌, Bool, true, false, List, [], ◌++◌, length, map, take, codes, Option, Some, None, Ok, Err}
use Rattle.std.specs.List.{list_all}
use Rattle.std.specs.Io.KnownBytes.{Appends}
use Rattle.upi_words.specs.Prelude.{Why, Text, Legal}
use Rattle.upi_base.specs.Setup.{is_setup}
use Rattle.upi_io.specs.Lines.{raw_lines, text_of}
use Rattle.upi_io.specs.declared.lines.TheConstants.{MAX_LINES}
use Rattle.upi_io.specs.declared.status.Status.{Status}
use Rattle.upi_laws.specs.Sound.{Sound}
use Rattle.upi_text.specs.Refusals.{refusal}
use Rattle.recon_report.specs.Report.{report_text}
use Rattle.script_engine.specs.Play.{Play, Played, play_line, play}
use Rattle.script_engine.specs.Writing.{IsTextOf}
use Rattle.script_engine.specs.End.{finished}
use Rattle.switch_cli.specs.Lines.{is_short, AreRead, IsAny, IsOver, IsCutAt, IsMore, IsNext, IsLong}

-- The setup is accepted, and the history over it is legal, and sound at each of its prefixes.
pub record IsTrusted (p : Play) : Type 0 where
  pub accepted : is_setup p.setup.lines ≡ true
  pub legal : Legal p.setup.lines p.history
  pub sound : Sound p.setup.lines p.history

-- A text is the whole text of a play: the text of its setup and of its history, with the `#` lines in their places, then REPORT and the report.
pub record IsWholeText (p : Play) (text : Text) : Type 0 where
  pub journal : Text
  pub tells : IsTextOf p journal
  pub ends : text ≡ journal ++ codes "REPORT\n" ++ report_text p.setup.lines p.history

-- ---- How it ends, after the lines of `texts` were played, with a further part written. The source had `source` left before, and has `left` now.

-- OPEN was read and nothing is left; the end was played
pub record Finishes (source left : Option Text) (texts : List Text) (q : Played) (part : Text) : Type 0 where
  pub ready : q.play.setup.is_open ≡ true
  pub over : AreRead source texts (IsOver left)
  pub text : part ≡ (finished q.play).text
  pub whole : IsWholeText (finished q.play).play (q.text ++ part)
  pub trusted : IsTrusted (finished q.play).play

-- the next line is outside the grammar
pub record IsRefused (source : Option Text) (texts : List Text) (p : Play) (field : ℕ) (w : Why) : Type 0 where
  pub text : Text
  pub few : length texts < MAX_LINES
  pub next : AreRead source texts (IsNext text)
  pub refused : play_line p text ≡ Err (refusal field w)

-- there are too many lines
pub record AreTooMany (source : Option Text) (texts : List Text) (field : ℕ) (w : Why) : Type 0 where
  pub many : length texts ≡ MAX_LINES
  pub more : AreRead source texts IsMore
  pub whole : field ≡ 0
  pub limit : w ≡ Why.Limit

-- nothing is left, and OPEN wasn't read
pub record EndsEarly (source left : Option Text) (texts : List Text) (p : Play) (field : ℕ) (w : Why) : Type 0 where
  pub unready : p.setup.is_open ≡ false
  pub over : AreRead source texts (IsOver left)
  pub whole : field ≡ 0
  pub ended : w ≡ Why.End

-- a line is refused, there is one line too many, or the end comes too soon
abbrev pub IsBad : Option Text → Option Text → List Text → Play → ℕ → Why → Type 0
IsBad source left texts p field w = IsRefused source texts p field w ⊎ (AreTooMany source texts field w ⊎ EndsEarly source left texts p field w)

-- a part of the text of the next line was written
pub record StopsInLine (source : Option Text) (texts : List Text) (p : Play) (part : Text) : Type 0 where
  pub text : Text
  pub played : Played
  pub next : AreRead source texts (IsNext text)
  pub plays : play_line p text ≡ Ok played
  pub count : ℕ
  pub short : count < length played.text
  pub front : part ≡ take count played.text

-- a part of the text of the end was written
pub record StopsAtEnd (source left : Option Text) (texts : List Text) (p : Play) (part : Text) : Type 0 where
  pub ready : p.setup.is_open ≡ true
  pub over : AreRead source texts (IsOver left)
  pub count : ℕ
  pub short : count < length (finished p).text
  pub front : part ≡ take count (finished p).text

-- What each status means. At a read fault the source's bytes were the lines played, a front of the next line, and those that it has left: none is lost.
abbrev pub EndsBy : Option Text → Option Text → List Text → Played → Text → Status → Type 0
EndsBy source left texts q part Status.Done = Finishes source left texts q part
EndsBy source left texts q part Status.Usage = ⊥
EndsBy source left texts q part (Status.BadLine line field w) = (part ≡ []) × (line ≡ length texts + 1) × IsBad source left texts q.play field w
EndsBy source left texts q part (Status.TooLong line) = (part ≡ []) × (line ≡ length texts + 1) × AreRead source texts (IsLong texts)
EndsBy source left texts q part Status.ReadFault = (part ≡ []) × AreRead source texts (IsCutAt left)
EndsBy source left texts q part Status.WriteFault = StopsInLine source texts q.play part ⊎ StopsAtEnd source left texts q.play part
EndsBy source left texts q part Status.NoMemory = (part ≡ []) × AreRead source texts IsAny
EndsBy source left texts q part (Status.AuditNo entry w) = ⊥

-- What a run of a script does: it reads lines, and writes what they play to; and then it ends. This holds of a source that doesn't tell what it has
-- left, too: only then nothing is said of what the texts have to do with its bytes.
pub record Ran (source left before after : Option Text) (s : Status) : Type 0 where
  -- the lines that were played, and what they were played to
  pub texts : List Text
  pub played : Played
  pub few : length texts ≤ MAX_LINES
  pub plays : play texts ≡ Ok played
  pub trusted : IsTrusted played.play
  -- what was written: their text, which is that of the setup and of the history; and a further part
  pub tells : IsTextOf played.play played.text
  pub part : Text
  pub wrote : Appends before after (played.text ++ part)
  -- why it ended
  pub ends : EndsBy source left texts played part s

-- ---- A run of a whole script.

-- The lines of these bytes are a script, and play to this: none of them is outside the grammar, and OPEN is among them.
pub record IsScript (bytes : Text) (q : Played) : Type 0 where
  pub few : length (raw_lines bytes) ≤ MAX_LINES
  pub short : list_all is_short (raw_lines bytes) ≡ true
  pub plays : play (map text_of (raw_lines bytes)) ≡ Ok q
  pub ready : q.play.setup.is_open ≡ true

-- all of it is done, and its whole text written
pub record IsWhole (q : Played) (before after : Option Text) (s : Status) : Type 0 where
  pub done : s ≡ Status.Done
  pub wrote : Appends before after (q.text ++ (finished q.play).text)

-- A source of a script ends in this alone, or for want of memory.
abbrev pub Completes : Option Text → Option Text → Option Text → Status → Type 0
Completes None before after s = Unit {0}
Completes (Some bytes) before after s = (q : Played) → IsScript bytes q → (s ≡ Status.NoMemory) ⊎ IsWhole q before after s
