-- What the functions that read a line answer.
use Rattle.std.specs.Prelude.{◌≡◌, true, Result, Ok, Err}
use Rattle.upi_words.specs.Prelude.{Setup}
use Rattle.upi_base.specs.Setup.{has_psp}
use Rattle.upi_base.specs.declared.fault.EngineFault.{EngineFault}
use Rattle.upi_text.specs.Refusals.{refusal}
use Rattle.upi_text.specs.declared.refusal.Refusal.{Refusal}
use Rattle.script_engine.specs.declared.line.Command.{Command}

-- the PSP of a SEND is of the setup
abbrev pub MayPlay : Setup → Command → Type 0
MayPlay S (Command.Send psp input) = has_psp S psp ≡ true
MayPlay S _ = Unit {0}

-- what a line says, or why it is refused, by the definition r
abbrev pub ReadAs : Result Command Refusal → Result Command EngineFault → Type 0
ReadAs r (Ok read) = r ≡ Ok read
ReadAs r (Err (EngineFault.Bad field why)) = r ≡ Err (refusal field why)
ReadAs r (Err EngineFault.NoMemory) = Unit {0}
