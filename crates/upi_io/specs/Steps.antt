-- What the reader's own steps do.
use Rattle.std.specs.Prelude.{◌≡◌, ℕ, ◌+◌, ◌<◌, ◌≤◌, Bool, true, false, List, [], ◌∷◌, ◌++◌, length, take, drop, Option, IfSome, Result, Ok, Err}
use Rattle.std.specs.Io.KnownBytes.{prepend_known, Consumes, Keeps, IsAtEnd}
use Rattle.upi_io.specs.Lines.{line_len, IsLine, IsCutOff}
use Rattle.upi_io.specs.declared.lines.TheConstants.{MAX_LINE}
use Rattle.upi_io.specs.declared.lines.LineFault.{LineFault}
use Rattle.upi_io.specs.declared.lines.LineFault.TheVariants.{TooLong, TooMany, ReadFault, NoMemory}
use Rattle.upi_io.specs.declared.source.ReadAnswer.{ReadAnswer}
use Rattle.upi_io.specs.declared.source.ReadAnswer.TheVariants as read

-- after a read into nothing: the bytes that were taken are held
abbrev pub Fills : Option (List ℕ) → Option (List ℕ) → List ℕ → ReadAnswer → Type 0
Fills old new held (read.Got n) = (0 < length held) × Consumes old new held
Fills old new held read.End = Keeps old new × IsAtEnd new × (held ≡ [])
Fills old new held read.Failed = Keeps old new × (held ≡ [])

-- Bytes were moved from the source to those held, and now there is one, or none is left, or the source failed.
abbrev pub IsReady : List ℕ → List ℕ → Option (List ℕ) → Option (List ℕ) → Result Bool LineFault → Type 0
IsReady held held' left left' (Ok true) = Keeps (prepend_known held left) (prepend_known held' left') × (0 < length held')
IsReady held held' left left' (Ok false) = Keeps (prepend_known held left) left' × IsAtEnd left' × (held' ≡ [])
IsReady held held' left left' (Err f) = (f ≡ ReadFault) × Keeps (prepend_known held left) left' × (held' ≡ [])

-- the first held bytes, at the end of a line; at a fault all stay where they are
abbrev pub TakesPart : List ℕ → List ℕ → ℕ → List ℕ → List ℕ → Result Bool LineFault → Type 0
TakesPart held line at held' line' (Ok true) = (line_len held < length held) × (line' ≡ line ++ take (line_len held) held) × (held' ≡ drop (line_len held + 1) held) × (length line' ≤ MAX_LINE)
TakesPart held line at held' line' (Ok false) = (line_len held ≡ length held) × (line' ≡ line ++ held) × (held' ≡ []) × (length line' ≤ MAX_LINE)
TakesPart held line at held' line' (Err (TooLong a)) = (a ≡ at) × (MAX_LINE < length line + line_len held) × (held' ≡ held) × (line' ≡ line)
TakesPart held line at held' line' (Err TooMany) = ⊥
TakesPart held line at held' line' (Err ReadFault) = ⊥
TakesPart held line at held' line' (Err NoMemory) = (held' ≡ held) × (line' ≡ line)

-- The bytes that were ahead are a line without LF, and then, behind an LF or not, those that are held and left.
abbrev pub Advances : Option (List ℕ) → List ℕ → Option (List ℕ) → List ℕ → ℕ → Result Bool LineFault → Type 0
Advances before held left line at (Ok true) = Consumes before (prepend_known held left) (line ++ 10 ∷ []) × IsLine line
Advances before held left line at (Ok false) = IsCutOff before left line × IsAtEnd left × (held ≡ [])
Advances before held left line at (Err (TooLong a)) = (a ≡ at) × IfSome before (λ bytes. MAX_LINE < line_len bytes) × IsCutOff before (prepend_known held left) line
Advances before held left line at (Err TooMany) = ⊥
Advances before held left line at (Err ReadFault) = IsCutOff before left line × (held ≡ [])
Advances before held left line at (Err NoMemory) = IsCutOff before (prepend_known held left) line
