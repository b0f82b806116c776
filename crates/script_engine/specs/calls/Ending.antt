-- What the functions that end a script answer.
use Rattle.std.specs.Prelude.{◌≡◌, Bool, true, false, ◌++◌, Result, Ok, Err}
use Rattle.upi_words.specs.Prelude.{Why, Text}
use Rattle.upi_base.specs.declared.fault.EngineFault.{EngineFault}
use Rattle.script_engine.specs.Play.{Play}
use Rattle.script_engine.specs.End.{finished}
use Rattle.script_engine.specs.Engine.{EngineState}

-- there was no memory
abbrev pub is_no_memory : Result (Unit {0}) EngineFault → Bool
is_no_memory (Ok u) = false
is_no_memory (Err (EngineFault.Bad field why)) = false
is_no_memory (Err EngineFault.NoMemory) = true

-- the end is played, or refused, which changes nothing
abbrev pub FinishAnswer : Play → Text → Text → Play → Result (Unit {0}) EngineFault → Type 0
FinishAnswer p before after new (Ok u) = (p.setup.is_open ≡ true) × (after ≡ before ++ (finished p).text) × (new ≡ (finished p).play)
FinishAnswer p before after new (Err (EngineFault.Bad field why)) = (p.setup.is_open ≡ false) × (field ≡ 0) × (why ≡ Why.End) × (after ≡ before) × (new ≡ p)
FinishAnswer p before after new (Err EngineFault.NoMemory) = Unit {0}

-- what a call answered and wrote is handed on, or there was no memory
abbrev pub SettledAnswer : EngineState → Result (Unit {0}) EngineFault → Text → Text → Text → EngineState → Result (Unit {0}) EngineFault → Type 0
SettledAnswer e answer text before after new (Ok u) = (answer ≡ Ok u) × (after ≡ before ++ text) × (new ≡ e)
SettledAnswer e answer text before after new (Err (EngineFault.Bad field why)) = (answer ≡ Err (EngineFault.Bad field why)) × (after ≡ before ++ text) × (new ≡ e)
SettledAnswer e answer text before after new (Err EngineFault.NoMemory) = (after ≡ before) × (new ≡ record e { failed = true })
