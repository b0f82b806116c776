-- The words of a command line, and the command that they ask for.
use Rattle.std.specs.Prelude.{ℕ, ◌≤◌, nat_le, ◌&&◌, if◌then◌else◌, List, [], ◌∷◌, length, codes, Option, Some, None}
use Rattle.std.specs.Option.{option_and_then, option_map}
use Rattle.std.specs.Str.{bytes_eq}
use Rattle.upi_base.specs.Lists.{when}
use Rattle.upi_text.specs.Words.{number_of}
use Rattle.load_generator.specs.declared.text.TheConstants.{MAX_COUNT, MAX_SEED}
use Rattle.command_words.specs.declared.command.Command.{Command}
use Rattle.command_words.specs.declared.command.LoadSize.{LoadSize}

-- the number in these bounds that a word of at most ten digits spells
abbrev pub value : ℕ → ℕ → List ℕ → Option ℕ
value least most word = if nat_le (length word) 10 then option_and_then (λ (n : ℕ). when (nat_le least n && nat_le n most) n) (number_of word) else None

-- the load of two words: how many payments, and the seed
abbrev pub load_size : List ℕ → List ℕ → Option LoadSize
load_size count seed =
    option_and_then (λ (c : ℕ).
    option_map (λ (s : ℕ). record { count = c; seed = s }) (value 0 MAX_SEED seed)) (value 1 MAX_COUNT count)

-- the command with two values behind its name
abbrev pub sized : List ℕ → List ℕ → List ℕ → Option Command
sized name count seed =
    option_and_then (λ (size : LoadSize).
    if bytes_eq name (codes "gen") then Some (Command.Generate size)
    else if bytes_eq name (codes "load") then Some (Command.Load size)
    else None) (load_size count seed)

-- the command that is one word
abbrev pub bare : List ℕ → Option Command
bare name =
    if bytes_eq name (codes "script") then Some Command.Script
    else if bytes_eq name (codes "audit") then Some Command.Audit
    else None

-- the command that these words ask for
abbrev pub command_of : List (List ℕ) → Option Command
command_of (name ∷ []) = bare name
command_of (name ∷ count ∷ seed ∷ []) = sized name count seed
command_of _ = None

-- the load that a command asks for is no larger than loads may be
abbrev pub IsWithin : Option Command → Type 0
IsWithin None = Unit {0}
IsWithin (Some Command.Script) = Unit {0}
IsWithin (Some Command.Audit) = Unit {0}
IsWithin (Some (Command.Generate size)) = (size.count ≤ MAX_COUNT) × (size.seed ≤ MAX_SEED)
IsWithin (Some (Command.Load size)) = (size.count ≤ MAX_COUNT) × (size.seed ≤ MAX_SEED)
