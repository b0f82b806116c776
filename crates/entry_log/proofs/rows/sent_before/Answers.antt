use Rattle.entry_log.proofs.Counts.{before_at}
use Rattle.entry_log.proofs.rows.sent_before.Goals as goal

pub returns-else-place-eq0 : goal.returns-else-place-eq0
returns-else-place-eq0 c = before_at c.args.rows.now c.args.place c.index-rows-place.result c.requires c.if-place-eq0.false
