use Rattle.recon_report.proofs.Read.{plain_lines}
use Rattle.recon_report.proofs.laws.plain_lines_are_joined.Goals as goal

pub returns : goal.returns
returns c = plain_lines
