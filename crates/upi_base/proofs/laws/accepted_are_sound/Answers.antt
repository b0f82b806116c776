use Rattle.upi_base.proofs.Setups.{accepted_are_sound}
use Rattle.upi_base.proofs.laws.accepted_are_sound.Goals as goal

pub returns : goal.returns
returns c = accepted_are_sound
