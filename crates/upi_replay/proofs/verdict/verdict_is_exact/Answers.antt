use Rattle.upi_replay.proofs.Verdicts.{verdict_is_exact}
use Rattle.upi_replay.proofs.verdict.verdict_is_exact.Goals as goal

pub returns : goal.returns
returns c = verdict_is_exact
