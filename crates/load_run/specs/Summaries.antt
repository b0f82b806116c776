-- What is told of a load that was run.
use Rattle.std.specs.Prelude.{◌≡◌, ℕ, [], ◌∷◌, ◌++◌, codes, decimal, Result, Ok, Err}
use Rattle.upi_words.specs.Prelude.{Text}
use Rattle.upi_base.specs.Money.{paise_text}
use Rattle.upi_base.specs.declared.settled.Summary.{Summary}
use Rattle.script_engine.specs.Play.{Played, play}
use Rattle.script_engine.specs.End.{summary_of}
use Rattle.load_run.specs.LoadLines.{load_lines}
use Rattle.load_run.specs.Runs.{Stops}
use Rattle.load_run.specs.declared.run.LoadFault.{LoadFault}

-- a word, and its number
abbrev pub counted : Text → ℕ → Text
counted word n = codes " " ++ word ++ codes " " ++ decimal n

-- how the transactions ended
unfoldable pub ends_text : Summary → Text
ends_text s = counted (codes "SUCCESS") s.success ++ counted (codes "FAILURE") s.failure ++ counted (codes "DEEMED") s.deemed

-- reconciliation items and the money in flight, entries and messages
unfoldable pub sums_text : Summary → Text
sums_text s = counted (codes "ITEMS") s.items ++ codes " FLIGHT " ++ paise_text s.flight ++ counted (codes "ENTRIES") s.entries ++ counted (codes "MESSAGES") s.messages

-- the line that sums up a load of so many payments from a seed
unfoldable pub summary_text : ℕ → ℕ → Summary → Text
summary_text count seed s = codes "LOAD " ++ decimal count ++ codes " " ++ decimal seed ++ ends_text s ++ sums_text s ++ 10 ∷ []

-- The lines of a load were played, and this sums them up; or the run stops.
abbrev pub LoadAnswer : ℕ → ℕ → Result Summary LoadFault → Type 0
LoadAnswer count seed (Ok s) = (q : Played) × (play (load_lines count seed) ≡ Ok q) × (s ≡ summary_of q.play.setup.lines q.play.history)
LoadAnswer count seed (Err fault) = Stops (load_lines count seed) fault

-- No line was refused.
abbrev pub IsPlayed : Result Summary LoadFault → Type 0
IsPlayed (Ok s) = Unit {0}
IsPlayed (Err (LoadFault.Refused line field w)) = ⊥
IsPlayed (Err LoadFault.NoMemory) = Unit {0}
