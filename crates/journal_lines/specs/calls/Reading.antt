-- What the functions that read a line answer.
use Rattle.std.specs.Prelude.{ℕ, ◌≡◌, ◌+◌, ◌≤◌, length, Option, Some, None, Result, Ok, Err}
use Rattle.upi_words.specs.Prelude.{Text}
use Rattle.upi_base.specs.declared.fault.EngineFault.{EngineFault}
use Rattle.upi_text.specs.Refusals.{refusal}
use Rattle.upi_text.specs.declared.refusal.Refusal.{Refusal}

-- what a line says, or why it is refused, by the definition r; or there was no memory
abbrev pub ReadAs : {X : Type 0} → Result X Refusal → Result X EngineFault → Type 0
ReadAs r (Ok x) = r ≡ Ok x
ReadAs r (Err (EngineFault.Bad field why)) = r ≡ Err (refusal field why)
ReadAs r (Err EngineFault.NoMemory) = Unit {0}

-- a mark of three bytes lies within the line
abbrev pub IsWithin : Text → Option ℕ → Type 0
IsWithin line None = Unit {0}
IsWithin line (Some n) = n + 3 ≤ length line
