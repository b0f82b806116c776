-- Money in flight, from one entry to the next.
use Rattle.std.specs.Prelude.{ℕ, ◌≡◌, ◌+◌, Option, Some, None}
use Rattle.upi_words.specs.Prelude.{Leg}

-- money in flight before and after a leg moved so much: a debit adds it, a credit and a reversal take it, and it was there
abbrev pub LegMoves : Leg → ℕ → ℕ → ℕ → Type 0
LegMoves Leg.Debit n old new = new ≡ old + n
LegMoves Leg.Credit n old new = old ≡ new + n
LegMoves Leg.Reversal n old new = old ≡ new + n

-- money in flight before and after an order that moved so much, if it moved anything
abbrev pub FlightMoves : Option (Leg × ℕ) → ℕ → ℕ → Type 0
FlightMoves None old new = new ≡ old
FlightMoves (Some moved) old new = LegMoves moved.0 moved.1 old new
