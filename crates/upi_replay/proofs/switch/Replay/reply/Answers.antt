use Rattle.std.proofs.Common.{◌∙◌}
use Rattle.upi_replay.proofs.Says.{replied_at}
use Rattle.upi_replay.proofs.switch.Replay.reply.Goals as goal

pub returns : goal.returns
returns c =
    let r = c.self.inside in
    c.reply.ensures
    ∙ replied_at c.args.self.now r.lines c.items.result.now r.entries.items c.deref.result.now r.found c.args.call.now c.args.event.now c.args.now c.self.view_is c.items.ensures c.deref.ensures.value c.self.invariant.found c.requires
