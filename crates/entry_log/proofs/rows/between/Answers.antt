use Rattle.entry_log.proofs.Counts.{cut}
use Rattle.entry_log.proofs.rows.between.Goals as goal

pub returns : goal.returns
returns c = cut c.args.from c.args.upto c.args.messages.now c.requires.order
