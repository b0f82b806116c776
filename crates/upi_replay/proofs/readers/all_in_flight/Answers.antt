use Rattle.std.proofs.Common.{arith}
use Rattle.upi_base.proofs.Lists.{sum_more}
use Rattle.upi_replay.specs.Rows.{row_flight}
use Rattle.upi_replay.proofs.readers.all_in_flight.Goals as goal

pub loop-row-preserved : goal.loop-row-preserved
loop-row-preserved c =
    let more = sum_more row_flight c.args.rows.now c.loop-row.row-index c.row-item.result c.loop-row-test.true c.row-item.is in
    (omega (arith, more, c.in_flight.ensures.flight, c.from-sum.ensures, c.loop-row.invariant.0), omega (arith, c.in_flight.ensures.bound, c.from-sum.ensures, c.loop-row.invariant.1))
