-- The lines of a text, and the first at which two lists of lines differ.
use Rattle.std.specs.Prelude.{ℕ, ◌+◌, ◌==◌, if◌then◌else◌, List, [], ◌∷◌, Option, Some, None, option_map}
use Rattle.std.specs.Str.{bytes_eq}
use Rattle.upi_words.specs.Prelude.{Text}

-- these lines, whose first begins with that byte
abbrev pub with_byte : ℕ → List Text → List Text
with_byte c [] = (c ∷ []) ∷ []
with_byte c (l ∷ ls) = (c ∷ l) ∷ ls

-- the lines of a text, without their line feeds
abbrev pub lines_in : Text → List Text
lines_in [] = []
lines_in (c ∷ cs) = if c == 10 then [] ∷ lines_in cs else with_byte c (lines_in cs)

-- the number of the first line that two lists don't have in common, counted from 1: lines that differ, or one that stands in one of them alone
abbrev pub first_difference : List Text → List Text → Option ℕ
first_difference [] [] = None
first_difference [] (b ∷ bs) = Some 1
first_difference (a ∷ as') [] = Some 1
first_difference (a ∷ as') (b ∷ bs) = if bytes_eq a b then option_map (λ (n : ℕ). n + 1) (first_difference as' bs) else Some 1
