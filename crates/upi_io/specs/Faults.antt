-- Counts of calls and of faults. A count that is at the greatest number stays there.
use Rattle.std.specs.Prelude.{ℕ, ◌+◌, ◌-◌, ◌^◌, ◌≤◌, min}

-- the count after one more
abbrev pub next_count : ℕ → ℕ
next_count count = min (count + 1) (2 ^ 64 - 1)

-- a count rose, or stands at the greatest number
abbrev pub Rose : ℕ → ℕ → Type 0
Rose before now = next_count before ≤ now
