-- Counts that stay at their greatest number.
use Rattle.std.proofs.Common.{◌≡◌, ℕ, ◌+◌, ap, ◌∙◌, ◌<◌, arith}
use Rattle.worker_pool.specs.Jobs.{counted}

pub counted_more : (a m n : ℕ) → a ≡ counted m → counted (a + n) ≡ counted (m + n)
counted_more a m n is = grind (arith, is)

pub counted_both : (a b k m n : ℕ) → a ≡ counted (k + m) → b ≡ counted (0 + n) → counted (a + b) ≡ counted (k + (m + n))
counted_both a b k m n is here = grind (arith, is, here)

pub counted_none : (a : ℕ) → a ≡ counted a → a ≡ counted (a + 0)
counted_none a is = is ∙ ap counted (omega arith)

pub counted_again : (a m : ℕ) → a ≡ counted m → a ≡ counted a
counted_again a m is = grind (arith, is)

pub counted_small : (a : ℕ) → a < 18446744073709551616 → a ≡ counted a
counted_small a less = grind (arith, less)
