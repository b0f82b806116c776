use Rattle.std.proofs.Common.{length, ap, ◌∙◌}
use Rattle.upi_model.specs.History.{sent_count}
use Rattle.entry_log.proofs.Counts.{sent_count_is}
use Rattle.entry_log.proofs.log.Log.sent_count.Goals as goal

pub returns : goal.returns
returns c = ap length c.as_slice.ensures.value ∙ sent_count_is c.self.inside.rows.items c.self.inside.messages.items c.self.invariant ∙ ap sent_count c.self.view_is
