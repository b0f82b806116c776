-- The words of a command line.
use Rattle.std.specs.Prelude.{ℕ, Bool, false, List, [], ◌∷◌}
use Rattle.std.specs.Str.{bytes_eq}

-- they are one word, and it is this one
abbrev pub is_one_word : List ℕ → List (List ℕ) → Bool
is_one_word word [] = false
is_one_word word (w ∷ []) = bytes_eq w word
is_one_word word (w ∷ v ∷ ws) = false
