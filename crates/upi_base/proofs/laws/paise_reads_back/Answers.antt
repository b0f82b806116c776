use Rattle.upi_base.proofs.Again.{paise_again}
use Rattle.upi_base.proofs.laws.paise_reads_back.Goals as goal

pub returns : goal.returns
returns c = paise_again
