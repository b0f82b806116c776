-- What the private functions answer.
use Rattle.std.specs.Prelude.{ℕ, ◌+◌, nat_lt, Bool, true, false, not, ◌&&◌, if◌then◌else◌, Option, Some, None}
use Rattle.upi_base.specs.declared.limits.TheConstants.{DUE_SECONDS, MAX_CONFIRMATIONS}
use Rattle.status_check.specs.declared.{Confirm.Confirm}

-- when the outcome is told again
abbrev pub due_at : Confirm → Option ℕ
due_at c = if nat_lt c.count MAX_CONFIRMATIONS && not c.answered then Some (c.last + DUE_SECONDS) else None

-- the confirmation after it was told again, or was not
abbrev pub told : Bool → Confirm → ℕ → Confirm
told true c now = record { last = now; count = c.count + 1; answered = c.answered }
told false c now = c
