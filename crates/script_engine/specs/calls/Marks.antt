-- Marks: which messages were taken.
use Rattle.std.specs.Prelude.{◌≡◌, ℕ, zero, suc, ◌+◌, ◌-◌, ◌<◌, ◌≤◌, Bool, true, false, if◌then◌else◌, List, length, Option, Some, None, slice_index_or}
use Rattle.upi_words.specs.Prelude.{Call, History}
use Rattle.upi_model.specs.Pending.{is_taken}

-- the mark of a message, counted from 1; one without a mark isn't taken
abbrev pub mark : List Bool → ℕ → Bool
mark marks n = slice_index_or marks (n - 1) false

-- the marks say which messages of a history were taken
abbrev pub IsTakenBy : History → List Bool → Type 0
IsTakenBy h marks = (n : ℕ) → 1 ≤ n → is_taken h n ≡ mark marks n

-- so many marks from the first on are set
pub record AreSet (marks : List Bool) (count : ℕ) : Type 0 where
  pub within : count ≤ length marks
  pub all : (k : ℕ) → k < count → slice_index_or marks k false ≡ true

-- the first number without a mark, of so many from n on
abbrev pub unmarked_from : List Bool → ℕ → ℕ → Option ℕ
unmarked_from marks n zero = None
unmarked_from marks n (suc more) = if mark marks n then unmarked_from marks (n + 1) more else Some n

-- the message that a call takes
abbrev pub message_in : Call → Option ℕ
message_in (Call.Deliver n) = Some n
message_in (Call.Lose n) = Some n
message_in _ = None
