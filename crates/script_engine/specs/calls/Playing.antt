-- What a player keeps, and what is known of its play.
use Rattle.std.specs.Prelude.{◌≡◌, Bool, true, false, List, [], Option, Some, None, unwrap_or}
use Rattle.upi_base.specs.Setup.{is_setup}
use Rattle.upi_base.specs.declared.setup.Setup.{Setup}
use Rattle.upi_words.specs.Prelude.{Legal}
use Rattle.upi_model.specs.Chronicle.{Chronicle}
use Rattle.upi_text.specs.Setup.{SetupState}
use Rattle.switch_core.specs.Calls.{IsSwitch}
use Rattle.script_engine.specs.Play.{Play}
use Rattle.script_engine.specs.calls.Marks.{IsTakenBy}

-- the switch is one, and the marks are those of its history
pub record IsPlaying (core : Chronicle) (marks : List Bool) : Type 0 where
  pub switch : IsSwitch core
  pub taken : IsTakenBy core.history marks

-- a play behind OPEN: its setup is accepted, and its history is legal
pub record IsOpenPlay (p : Play) : Type 0 where
  pub opened : p.setup.is_open ≡ true
  pub accepted : is_setup p.setup.lines ≡ true
  pub legal : Legal p.setup.lines p.history

-- the play on a switch that was just opened
abbrev pub opened_play : Setup → Play
opened_play s = record { setup = record { start = Some s.start; lines = s.lines; is_open = true }; history = []; now = s.start }

-- what an engine has played: the setup that it reads, or what is played behind OPEN
abbrev pub play_of : SetupState → Option Play → Play
play_of S None = record { setup = S; history = []; now = unwrap_or S.start 0 }
play_of S (Some p) = p

-- OPEN wasn't read, or it was
abbrev pub IsEngine : SetupState → Option Play → Type 0
IsEngine S None = (S.is_open ≡ false) × (is_setup S.lines ≡ true)
IsEngine S (Some p) = IsOpenPlay p
