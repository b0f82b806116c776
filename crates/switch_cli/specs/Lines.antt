-- The lines of a source that were read, and the bytes after them.
use Rattle.std.specs.Prelude.{◌≡◌, ℕ, ◌<◌, ◌≤◌, nat_le, Bool, true, List, [], ◌∷◌, ◌++◌, length, map, Option, Some, None}
use Rattle.std.specs.List.{concat, list_all}
use Rattle.upi_words.specs.Prelude.{Text}
use Rattle.upi_io.specs.Lines.{raw_lines, text_of, line_len, IsCutOff}
use Rattle.upi_io.specs.declared.lines.TheConstants.{MAX_LINE, MAX_LINES}

-- a line of at most so many bytes before its LF
abbrev pub is_short : Text → Bool
is_short raw = nat_le (line_len raw) MAX_LINE

-- Bytes begin with lines of these texts, none of them too long, and the bytes after these lines are as told.
pub record BeginWith (bytes : Text) (texts : List Text) (After : Text → Type 0) : Type 0 where
  -- the lines, each with its line end
  pub read : List Text
  -- the bytes after them
  pub rest : Text
  pub whole : bytes ≡ concat read ++ rest
  pub lines : raw_lines bytes ≡ read ++ raw_lines rest
  pub short : list_all is_short read ≡ true
  pub are : map text_of read ≡ texts
  pub after : After rest

-- the same of what a source has left, where it tells
abbrev pub AreRead : Option Text → List Text → (Text → Type 0) → Type 0
AreRead None texts After = Unit {0}
AreRead (Some bytes) texts After = BeginWith bytes texts After

-- ---- the bytes after the lines that were read

-- anything
abbrev pub IsAny : Text → Type 0
IsAny rest = Unit {0}

-- none: all lines were read, and the source has nothing left
abbrev pub IsOver : Option Text → Text → Type 0
IsOver left rest = (rest ≡ []) × (left ≡ Some [])

-- a front of a line, in which there is no LF, and then exactly what the source has left
abbrev pub IsCutAt : Option Text → Text → Type 0
IsCutAt left rest = (front : Text) × IsCutOff (Some rest) left front

-- a further line
abbrev pub IsMore : Text → Type 0
IsMore rest = (l : Text) × (ls : List Text) × (raw_lines rest ≡ l ∷ ls)

-- a line that isn't too long, with this text
abbrev pub IsNext : Text → Text → Type 0
IsNext text rest = (l : Text) × (ls : List Text) × (raw_lines rest ≡ l ∷ ls) × (line_len l ≤ MAX_LINE) × (text ≡ text_of l)

-- a line that is too long, the number of which is within the limit
abbrev pub IsLong : List Text → Text → Type 0
IsLong texts rest = (l : Text) × (ls : List Text) × (raw_lines rest ≡ l ∷ ls) × (MAX_LINE < line_len l) × (length texts < MAX_LINES)
