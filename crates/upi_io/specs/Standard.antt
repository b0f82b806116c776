-- Adapters over readers and writers of std: what the library tells of the reader or the writer inside, and how often it failed.
use Rattle.std.specs.Prelude.{◌≡◌, ℕ, ◌<◌, ◌≤◌, Bool, List, length, take, Option, Some, None}
use Rattle.std.specs.Io.KnownBytes.{Consumes, Appends, Keeps, IsAtEnd}
use Rattle.upi_io.specs.declared.standard.Reading.{Reading}
use Rattle.upi_io.specs.declared.standard.Writing.{Writing}

-- what the reader inside has left, by the word that tells this of a reader
abbrev pub reading_left : {R : Type 0} → (R → Option (List ℕ)) → Reading R → Option (List ℕ)
reading_left remaining s = remaining s.inner

-- whether the adapter has answered that nothing is left
abbrev pub reading_ended : {R : Type 0} → Reading R → Bool
reading_ended s = s.ended

-- how many reads failed
abbrev pub reading_faults : {R : Type 0} → Reading R → ℕ
reading_faults s = s.faults

-- the writer inside
abbrev pub writing_inner : {W : Type 0} → Writing W → W
writing_inner k = k.inner

-- what the writer inside has taken, by the word that tells this of a writer
abbrev pub writing_taken : {W : Type 0} → (W → Option (List ℕ)) → Writing W → Option (List ℕ)
writing_taken contents k = contents k.inner

-- how many writes and flushes failed
abbrev pub writing_faults : {W : Type 0} → Writing W → ℕ
writing_faults k = k.faults

-- ---- one call of a reader or a writer

-- A reader gave so many of its next bytes, none only where none is left; or it failed, and gave none.
abbrev pub Gives : Option (List ℕ) → Option (List ℕ) → List ℕ → Option ℕ → Type 0
Gives old new buf (Some n) = (n ≤ length buf) × Consumes old new (take n buf) × (n ≡ 0 → 0 < length buf → IsAtEnd new)
Gives old new buf None = Keeps old new

-- A writer took so many of the first bytes of a piece; or it failed, and took none.
abbrev pub Takes : Option (List ℕ) → Option (List ℕ) → List ℕ → Option ℕ → Type 0
Takes old new bytes (Some n) = (n ≤ length bytes) × Appends old new (take n bytes)
Takes old new bytes None = Keeps old new
