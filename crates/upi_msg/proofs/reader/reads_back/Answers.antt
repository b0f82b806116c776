use Rattle.upi_msg.proofs.Law.{reads_back}
use Rattle.upi_msg.proofs.reader.reads_back.Goals as goal

pub returns : goal.returns
returns c = reads_back
