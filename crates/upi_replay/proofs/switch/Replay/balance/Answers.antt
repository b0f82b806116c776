use Rattle.std.proofs.Common.{◌∙◌}
use Rattle.upi_replay.proofs.Readings.{balance_at}
use Rattle.upi_replay.proofs.switch.Replay.balance.Goals as goal

pub returns : goal.returns
returns c =
    let r = c.self.inside in
    c.balance.ensures.sum ∙ balance_at c.args.self.now r.lines c.items.result.now r.entries.items r.found c.deref.result.now c.args.account.now c.self.view_is c.items.ensures c.deref.ensures.value c.self.invariant.found
