use Rattle.std.proofs.Common.{length, ap, ◌∙◌}
use Rattle.upi_model.specs.Chronicle.{Chronicle}
use Rattle.upi_model.specs.History.{past, sent_count}
use Rattle.upi_replay.proofs.Says.{count_is}
use Rattle.upi_replay.proofs.switch.Replay.sent_count.Goals as goal

pub returns : goal.returns
returns c =
    ap length (c.as_slice.ensures.value ∙ c.self.invariant.messages_are)
    ∙ (count_is (past c.self.inside.entries.items) ∙ ap (λ (k : Chronicle). sent_count k.history) c.self.view_is)
