-- Numbers that look drawn by lot, and are the same at each run.
use Rattle.std.specs.Prelude.{ℕ, ◌+◌, ◌*◌, ◌/◌, ◌%◌}

-- the state after a draw
abbrev pub next_state : ℕ → ℕ
next_state x = (1103515245 * x + 12345) % 2147483648

-- what a draw gives, by the state after it
abbrev pub drawn : ℕ → ℕ
drawn x = x / 65536
