use Rattle.std.proofs.Common.{◌∙◌}
use Rattle.std.specs.Option.{option_copied}
use Rattle.upi_replay.proofs.Says.{messages_at}
use Rattle.upi_replay.proofs.switch.Replay.sends.Goals as goal

pub returns : goal.returns
returns c =
    let r = c.self.inside in
    c.in_ok-sent.ensures
    ∙ messages_at c.args.self.now r.lines c.items-setup.result.now r.entries.items c.deref-2.result.now r.messages.items c.deref.result.now r.found c.args.call.now c.args.event.now c.args.now (option_copied c.message_in-message.result)
    c.self.view_is c.items-setup.ensures c.deref-2.ensures.value c.deref.ensures.value c.self.invariant c.requires c.message_in-message.ensures
