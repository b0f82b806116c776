-- What an engine holds is sound.
use Rattle.upi_laws.proofs.Promise.{legal_is_sound}
use Rattle.std.proofs.Common.{refl}
use Rattle.script_engine.specs.Play.{blank}
use Rattle.script_engine.specs.Engine.{EngineState, IsTrue, fresh}
use Rattle.switch_cli.specs.Run.{IsTrusted}

-- the setup is accepted and the history legal, so the history is sound
pub trusted : (e : EngineState) → IsTrue e → IsTrusted e.play
trusted e holds =
    record {
      accepted = holds.accepted;
      legal = holds.legal;
      sound = legal_is_sound e.play.setup.lines e.play.history holds.accepted holds.legal;
    }

-- what has read nothing is sound
pub blank_is_trusted : IsTrusted blank
blank_is_trusted = trusted fresh (record { accepted = refl; legal = tt })
