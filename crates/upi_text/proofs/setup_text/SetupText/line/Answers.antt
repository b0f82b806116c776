use Rattle.std.proofs.Common.{sym}
use Rattle.upi_text.proofs.Placed.{placed}
use Rattle.upi_text.proofs.setup_text.SetupText.line.Goals as goal

pub take-requires-clause-placed : goal.take-requires-clause-placed
take-requires-clause-placed c = placed c.args.self.now c.args.line.now c.in_ok-read.read (sym c.in_ok-read.ensures.read)
