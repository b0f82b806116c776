-- Where the reply of an E line begins.
use Rattle.std.specs.Prelude.{ℕ, ◌==◌, ◌+◌, Bool, false, ◌&&◌, List, [], ◌∷◌, Option, Some, None, take, drop}
use Rattle.std.specs.Option.{option_or, option_map}
use Rattle.upi_words.specs.Prelude.{Text}
use Rattle.upi_base.specs.Lists.{when}

-- a text begins with ` = `
abbrev pub has_mark : Text → Bool
has_mark (a ∷ b ∷ c ∷ cs) = (a == 32) && (b == 61) && (c == 32)
has_mark _ = false

-- how many bytes stand before the last ` = `
abbrev pub last_mark : Text → Option ℕ
last_mark [] = None
last_mark (c ∷ cs) = option_or (option_map (λ (n : ℕ). n + 1) (last_mark cs)) (when (has_mark (c ∷ cs)) 0)

-- a line, cut at a mark: what stands before it, and after it
abbrev pub cut_at : Text → Option ℕ → Option (Text × Text)
cut_at line None = None
cut_at line (Some n) = Some (take n line, drop (n + 3) line)

-- a line, cut at its last ` = `
abbrev pub at_reply : Text → Option (Text × Text)
at_reply line = cut_at line (last_mark line)
