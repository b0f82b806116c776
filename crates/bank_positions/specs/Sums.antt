-- Sums of what moved, by bank and leg.
use Rattle.std.specs.Prelude.{ℕ, zero, suc, ◌+◌, ◌*◌, List, [], ◌∷◌, slice_index}
use Rattle.atomic_table.specs.Seated.{TableId}
use Rattle.upi_base.specs.declared.code.Leg.{Leg}
use Rattle.upi_base.specs.declared.code.Leg.TheVariants.{Debit, Credit, Reversal}
use Rattle.part_sums.specs.Totals.{total}
use Rattle.bank_positions.specs.declared.position.Position.{Position}

-- of which sums we speak: their table of words, how many banks they have, and how many shards
pub record Layout : Type 0 where
  pub table : TableId
  pub banks : ℕ
  pub shards : ℕ

-- the layout of no sums
abbrev pub no_layout : Layout
no_layout = record { table = record { words = 0; slots = 0; views_name = 0; atom = 0; block = 0; offset = 0; slot_names = [] }; banks = 0; shards = 0 }

-- where the sum of a leg stands among the three of its bank
abbrev pub leg_place : Leg → ℕ
leg_place Debit = 0
leg_place Reversal = 1
leg_place Credit = 2

-- the place of a bank's sum for a leg
abbrev pub place : ℕ → Leg → ℕ
place bank leg = bank * 3 + leg_place leg

-- of a list of sums: that of a bank and leg
abbrev pub sum_of : List ℕ → ℕ → Leg → ℕ
sum_of sums bank leg = slice_index sums (place bank leg)

-- n more at the place k, where a list goes on with zeros
abbrev pub more : List ℕ → ℕ → ℕ → List ℕ
more [] zero n = n ∷ []
more [] (suc k) n = 0 ∷ more [] k n
more (x ∷ xs) zero n = (x + n) ∷ xs
more (x ∷ xs) (suc k) n = x ∷ more xs k n

-- what all shares have added for a bank
abbrev pub gathered : List (List ℕ) → ℕ → Position
gathered shares bank = record {
  debits = total (λ s. sum_of s bank Debit) shares;
  reversals = total (λ s. sum_of s bank Reversal) shares;
  credits = total (λ s. sum_of s bank Credit) shares;
}
