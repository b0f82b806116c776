use Rattle.std.proofs.Common.{◌∙◌}
use Rattle.upi_replay.proofs.Readings.{flight_at}
use Rattle.upi_replay.proofs.switch.Replay.flight.Goals as goal

pub returns : goal.returns
returns c =
    let r = c.self.inside in
    c.all_in_flight.ensures.flight ∙ flight_at c.args.self.now r.lines r.entries.items r.found c.deref.result.now c.self.view_is c.deref.ensures.value c.self.invariant.found
