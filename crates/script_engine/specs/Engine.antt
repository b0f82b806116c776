-- An engine: what a script has played on it, and what its calls answer.
use Rattle.std.specs.Prelude.{◌≡◌, Bool, true, false, ◌++◌, Result, Ok, Err}
use Rattle.upi_words.specs.Prelude.{Why, Text, Legal}
use Rattle.upi_base.specs.Setup.{is_setup}
use Rattle.upi_base.specs.declared.fault.EngineFault.{EngineFault}
use Rattle.upi_text.specs.Refusals.{refusal}
use Rattle.script_engine.specs.Play.{Play, Played, blank, play_line}
use Rattle.script_engine.specs.End.{finished}

-- What was played, and whether memory has failed: then nothing is played any more.
pub record EngineState : Type 0 where
  pub play : Play
  pub failed : Bool

-- an engine that has read nothing
abbrev pub fresh : EngineState
fresh = record { play = blank; failed = false }

-- what holds of each engine: the setup that was read is accepted, and the history over it is legal
pub record IsTrue (e : EngineState) : Type 0 where
  pub accepted : is_setup e.play.setup.lines ≡ true
  pub legal : Legal e.play.setup.lines e.play.history

-- At want of memory nothing is appended, and the engine has failed. One that had failed before is as it was.
pub record HasFailed (e : EngineState) (before after : Text) (new : EngineState) : Type 0 where
  pub failed : new.failed ≡ true
  pub unwritten : after ≡ before
  pub stays : e.failed ≡ true → new ≡ e

-- A line is played exactly as it is defined, and its text appended; or it is refused, and changes and appends nothing. Neither comes of an engine that has failed.
abbrev pub LineAnswer : EngineState → Text → Text → Text → EngineState → Result (Unit {0}) EngineFault → Type 0
LineAnswer e line before after new (Ok u) = (e.failed ≡ false) × ((q : Played) × (play_line e.play line ≡ Ok q) × (after ≡ before ++ q.text) × (new ≡ record { play = q.play; failed = false }))
LineAnswer e line before after new (Err (EngineFault.Bad field why)) = (e.failed ≡ false) × (play_line e.play line ≡ Err (refusal field why)) × (after ≡ before) × (new ≡ e)
LineAnswer e line before after new (Err EngineFault.NoMemory) = HasFailed e before after new

-- The end is played, and its text appended; or OPEN wasn't read, and nothing changes.
abbrev pub EndAnswer : EngineState → Text → Text → EngineState → Result (Unit {0}) EngineFault → Type 0
EndAnswer e before after new (Ok u) = (e.failed ≡ false) × (e.play.setup.is_open ≡ true) × (after ≡ before ++ (finished e.play).text) × (new ≡ record { play = (finished e.play).play; failed = false })
EndAnswer e before after new (Err (EngineFault.Bad field why)) = (e.failed ≡ false) × (e.play.setup.is_open ≡ false) × (field ≡ 0) × (why ≡ Why.End) × (after ≡ before) × (new ≡ e)
EndAnswer e before after new (Err EngineFault.NoMemory) = HasFailed e before after new
