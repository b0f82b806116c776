use Rattle.std.proofs.Common.{◌∙◌}
use Rattle.upi_model.specs.History.{past}
use Rattle.upi_replay.proofs.Readings.{txns_at, banked_at}
use Rattle.upi_replay.proofs.switch.Replay.rows.Goals as goal

pub all_txns-requires : goal.all_txns-requires
all_txns-requires c =
    let r = c.self.inside in
    banked_at r.lines c.items.result.now (past r.entries.items) r.found c.deref.result.now c.items.ensures c.deref.ensures.value c.self.invariant.found

pub returns : goal.returns
returns c =
    let r = c.self.inside in
    c.in_ok-all.ensures ∙ txns_at c.args.self.now r.lines c.items.result.now r.entries.items r.found c.deref.result.now c.self.view_is c.items.ensures c.deref.ensures.value c.self.invariant.found
