-- Digits and the numbers that they spell: what a loop over them needs.
use Rattle.upi_base.proofs.Digits.{digit_range, front_lt, front_more, run_digits}

pub ruleset digit_steps = (digit_range, front_lt, front_more)

pub ruleset digit_runs = (run_digits)
