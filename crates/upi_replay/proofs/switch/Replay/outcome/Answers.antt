use Rattle.std.proofs.Common.{◌∙◌, ap}
use Rattle.upi_replay.specs.Rows.{outcome_in}
use Rattle.upi_replay.proofs.Readings.{outcome_at}
use Rattle.upi_replay.proofs.switch.Replay.outcome.Goals as goal

pub returns : goal.returns
returns c =
    let r = c.self.inside in
    c.outcome_in.ensures ∙ (ap outcome_in c.row_at.ensures ∙ outcome_at c.args.self.now r.lines r.entries.items r.found c.deref.result.now c.args.txn.now c.self.view_is c.deref.ensures.value c.self.invariant.found)
