use Rattle.upi_base.proofs.Again.{moment_again}
use Rattle.upi_base.proofs.laws.moment_reads_back.Goals as goal

pub returns : goal.returns
returns c = moment_again
