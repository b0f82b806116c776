-- Lines, cut into words.
use Rattle.std.specs.Prelude.{ℕ, zero, suc, ◌==◌, nat_le, Bool, true, ◌&&◌, if◌then◌else◌, List, [], ◌∷◌, length, Option, Some, None, slice_get, unwrap_or}
use Rattle.std.specs.List.{list_all}
use Rattle.std.specs.Char.{is_ascii_digit}
use Rattle.std.specs.Str.Parse.{digits_value}

-- a line that is passed over: it is empty, or it begins with `#`
abbrev pub is_skipped : List ℕ → Bool
is_skipped [] = true
is_skipped (c ∷ cs) = c == 35

-- the bytes before the first space
abbrev pub first_word : List ℕ → List ℕ
first_word [] = []
first_word (c ∷ cs) = if c == 32 then [] else c ∷ first_word cs

-- the words that follow a space
abbrev pub later_words : List ℕ → List (List ℕ)
later_words [] = []
later_words (c ∷ cs) = if c == 32 then first_word cs ∷ later_words cs else later_words cs

-- what stands between single spaces; words may be empty
abbrev pub words : List ℕ → List (List ℕ)
words line = first_word line ∷ later_words line

-- the word at a place, counted from 0, and an empty one past the last
abbrev pub word_at : ℕ → List (List ℕ) → List ℕ
word_at place ws = unwrap_or (slice_get ws place) []

-- what follows the first space, and nothing where there is none
abbrev pub after_space : List ℕ → List ℕ
after_space [] = []
after_space (c ∷ cs) = if c == 32 then cs else after_space cs

-- what follows so many spaces
abbrev pub from_word : ℕ → List ℕ → List ℕ
from_word zero line = line
from_word (suc n) line = after_space (from_word n line)

-- the number that 1 to 18 digits spell
unfoldable pub number_of : List ℕ → Option ℕ
number_of text =
    if nat_le 1 (length text) && nat_le (length text) 18 && list_all is_ascii_digit text
    then Some (digits_value 10 text)
    else None
