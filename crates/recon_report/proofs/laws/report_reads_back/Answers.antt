use Rattle.recon_report.proofs.Read.{reads_back}
use Rattle.recon_report.proofs.laws.report_reads_back.Goals as goal

pub returns : goal.returns
returns c = reads_back
