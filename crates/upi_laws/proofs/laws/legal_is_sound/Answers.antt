use Rattle.upi_laws.proofs.Promise.{legal_is_sound}
use Rattle.upi_laws.proofs.laws.legal_is_sound.Goals as goal

pub returns : goal.returns
returns c = legal_is_sound
