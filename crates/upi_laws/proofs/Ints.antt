-- Differences of sums.
use Rattle.std.proofs.Common.{◌≡◌, ℕ, ◌+◌, pos, ◌+ℤ◌, arith}
use Rattle.std.specs.Prelude.{◌-ℤ◌}
use Rattle.std.proofs.lemmas.Int.{ints}

pub same_difference : (a b c d : ℕ) → a + d ≡ c + b → pos a -ℤ pos b ≡ pos c -ℤ pos d
same_difference a b c d e = grind (arith, ints)

pub added_difference : (n a b m : ℕ) → n + a ≡ m + b → pos n +ℤ (pos a -ℤ pos b) ≡ pos m
added_difference n a b m e = grind (arith, ints)

pub difference_sum : (a b c d : ℕ) → (pos a -ℤ pos b) +ℤ (pos c -ℤ pos d) ≡ pos (a + c) -ℤ pos (b + d)
difference_sum a b c d = omega (arith, ints)

pub no_difference : (a : ℕ) → pos a -ℤ pos a ≡ pos 0
no_difference a = grind (arith, ints)
