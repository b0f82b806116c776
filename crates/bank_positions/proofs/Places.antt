-- Lists of sums, place by place.
use Rattle.std.proofs.Common.{◌≡◌, ◌≢◌, ℕ, zero, suc, ◌+◌, ◌*◌, ◌<◌, List, [], ◌∷◌, length, set, refl, ap, arith}
use Rattle.std.specs.Prelude.{slice_index}
use Rattle.upi_base.specs.declared.code.Leg.{Leg}
use Rattle.upi_base.specs.declared.code.Leg.TheVariants.{Debit, Credit, Reversal}
use Rattle.bank_positions.specs.Sums.{more, place}
use Rattle.bank_positions.specs.calls.Rule.{both}

pub more_here : (xs : List ℕ) (k n : ℕ) → slice_index (more xs k n) k ≡ slice_index xs k + n
more_here [] zero n = omega arith
more_here [] (suc k) n = more_here [] k n
more_here (x ∷ xs) zero n = refl
more_here (x ∷ xs) (suc k) n = more_here xs k n

pub more_else : (xs : List ℕ) (k j n : ℕ) → j ≢ k → slice_index (more xs k n) j ≡ slice_index xs j
more_else [] zero zero n apart = absurd (apart refl)
more_else [] zero (suc j) n apart = refl
more_else [] (suc k) zero n apart = refl
more_else [] (suc k) (suc j) n apart = more_else [] k j n (λ e. apart (ap suc e))
more_else (x ∷ xs) zero zero n apart = absurd (apart refl)
more_else (x ∷ xs) zero (suc j) n apart = refl
more_else (x ∷ xs) (suc k) zero n apart = refl
more_else (x ∷ xs) (suc k) (suc j) n apart = more_else xs k j n (λ e. apart (ap suc e))

pub both_at : (xs ys : List ℕ) (i : ℕ) → slice_index (both xs ys) i ≡ slice_index xs i + slice_index ys i
both_at [] ys i = omega arith
both_at (x ∷ xs) [] i = omega arith
both_at (x ∷ xs) (y ∷ ys) zero = refl
both_at (x ∷ xs) (y ∷ ys) (suc i) = both_at xs ys i

pub index_here : (ws : List ℕ) (i n : ℕ) → i < length ws → slice_index (set ws i n) i ≡ n
index_here [] i n h = absurd (omega arith)
index_here (x ∷ xs) zero n h = refl
index_here (x ∷ xs) (suc i) n h = index_here xs i n (omega arith)

pub index_else : (ws : List ℕ) (i j n : ℕ) → j ≢ i → slice_index (set ws i n) j ≡ slice_index ws j
index_else [] i j n apart = refl
index_else (x ∷ xs) zero zero n apart = absurd (apart refl)
index_else (x ∷ xs) zero (suc j) n apart = refl
index_else (x ∷ xs) (suc i) zero n apart = refl
index_else (x ∷ xs) (suc i) (suc j) n apart = index_else xs i j n (λ e. apart (ap suc e))

pub long_set : (ws : List ℕ) (i n : ℕ) → length (set ws i n) ≡ length ws
long_set [] i n = refl
long_set (x ∷ xs) zero n = refl
long_set (x ∷ xs) (suc i) n = ap suc (long_set xs i n)

-- to write what is there changes nothing
pub word_same : (ws : List ℕ) (i : ℕ) → set ws i (slice_index ws i) ≡ ws
word_same [] i = refl
word_same (x ∷ xs) zero = refl
word_same (x ∷ xs) (suc i) = ap (λ l. x ∷ l) (word_same xs i)

-- a bank's three words are among those of all banks
pub within : (bank banks : ℕ) (leg : Leg) → bank < banks → place bank leg < banks * 3
within bank banks Debit less = omega (arith, less)
within bank banks Reversal less = omega (arith, less)
within bank banks Credit less = omega (arith, less)
