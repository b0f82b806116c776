-- Which messages wait to be delivered or lost.
use Rattle.std.specs.Prelude.{ℕ, zero, suc, ◌+◌, ◌==◌, Bool, false, if◌then◌else◌, Option, Some, None}
use Rattle.std.specs.List.{list_any}
use Rattle.upi_model.specs.Types.{Call, Entry, History}
use Rattle.upi_model.specs.History.{sent_count}

-- the call delivers or loses message n
abbrev pub takes : ℕ → Call → Bool
takes n (Call.Deliver m) = m == n
takes n (Call.Lose m) = m == n
takes n _ = false

-- message n was delivered or lost
abbrev pub is_taken : History → ℕ → Bool
is_taken h n = list_any (λ (e : Entry). takes n e.call) h

-- the first number that was not taken, of so many from n on
abbrev pub lowest_from : History → ℕ → ℕ → Option ℕ
lowest_from h n zero = None
lowest_from h n (suc more) = if is_taken h n then lowest_from h (n + 1) more else Some n

-- the lowest number of a message that was sent and not taken
abbrev pub lowest_pending : History → Option ℕ
lowest_pending h = lowest_from h 1 (sent_count h)
