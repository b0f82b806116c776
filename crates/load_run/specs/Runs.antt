-- A script's lines, played on an engine one after another.
use Rattle.std.specs.Prelude.{◌≡◌, ℕ, ◌+◌, List, ◌∷◌, ◌++◌, length, Result, Ok, Err}
use Rattle.upi_words.specs.Prelude.{Text, Why}
use Rattle.upi_text.specs.Refusals.{refusal}
use Rattle.upi_base.specs.declared.fault.EngineFault.{EngineFault}
use Rattle.script_engine.specs.Play.{Play, Played, play_line, play}
use Rattle.load_run.specs.declared.run.LoadFault.{LoadFault}

-- Of these lines, some were played, to p; the rest is left.
pub record Going (lines rest : List Text) (p : Play) (count : ℕ) : Type 0 where
  pub done : List Text
  pub written : Text
  pub split : lines ≡ done ++ rest
  pub counted : length done ≡ count
  pub plays : play done ≡ Ok (record { play = p; text = written })

-- the line at a place is the first that is refused, for this reason
pub record IsRefused (lines : List Text) (place field : ℕ) (w : Why) : Type 0 where
  pub line : Text
  pub rest : List Text
  pub play : Play
  pub count : ℕ
  pub going : Going lines (line ∷ rest) play count
  pub here : place ≡ count + 1
  pub refused : play_line play line ≡ Err (refusal field w)

-- why a run of these lines stops: one is refused, or there was no memory
abbrev pub Stops : List Text → LoadFault → Type 0
Stops lines (LoadFault.Refused place field w) = IsRefused lines place field w
Stops lines LoadFault.NoMemory = Unit {0}

-- the lines up to the rest were played, or the run stops
abbrev pub Runs : List Text → List Text → Play → ℕ → Result (Unit {0}) LoadFault → Type 0
Runs lines rest new count (Ok u) = Going lines rest new count
Runs lines rest new count (Err fault) = Stops lines fault
