-- The lines of a load that is run: its setup, its payments with the network's turns between them, and the close.
use Rattle.std.specs.Prelude.{ℕ, zero, suc, ◌+◌, ◌%◌, ◌==◌, ◌||◌, Bool, if◌then◌else◌, List, [], ◌∷◌, codes}
use Rattle.upi_words.specs.Prelude.{Text}
use Rattle.load_generator.specs.Users.{setup_line, setup_len}
use Rattle.load_generator.specs.Loads.{next_send}

-- the network takes its turns, and time goes on
abbrev pub with_turns : List Text → List Text
with_turns rest = codes "RUN 7 5" ∷ codes "TICK 30" ∷ rest

-- so many times more
abbrev pub with_more_turns : ℕ → List Text → List Text
with_more_turns zero rest = rest
with_more_turns (suc more) rest = with_turns (with_more_turns more rest)

-- after the last payment: more turns, and the close
abbrev pub closing : List Text
closing = with_more_turns 4 (codes "CLOSE" ∷ [])

-- the network takes its turns behind every hundredth payment, and behind the last
abbrev pub takes_turns : ℕ → ℕ → Bool
takes_turns count made = made % 100 == 0 || made == count

-- turns, where they come behind so many payments of a load
abbrev pub with_turns_at : ℕ → ℕ → List Text → List Text
with_turns_at count made rest = if takes_turns count made then with_turns rest else rest

-- the payments of a load behind so many others, with so many left, and what comes behind them
abbrev pub payments_from : ℕ → ℕ → ℕ → ℕ → List Text
payments_from seed count made zero = closing
payments_from seed count made (suc left) = next_send seed made ∷ with_turns_at count (made + 1) (payments_from seed count (made + 1) left)

-- the lines of the setup from one on, of which so many are left, and what comes behind them
abbrev pub setup_from : ℕ → ℕ → List Text → List Text
setup_from k zero rest = rest
setup_from k (suc left) rest = setup_line k ∷ setup_from (k + 1) left rest

-- the lines of a load that is run
unfoldable pub load_lines : ℕ → ℕ → List Text
load_lines count seed = setup_from 0 setup_len (payments_from seed count 0 count)
