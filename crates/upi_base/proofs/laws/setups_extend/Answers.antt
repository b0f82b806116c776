use Rattle.upi_base.proofs.Setups.{setups_extend}
use Rattle.upi_base.proofs.laws.setups_extend.Goals as goal

pub returns : goal.returns
returns c = setups_extend
