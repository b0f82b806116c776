use Rattle.std.proofs.Common.{arith}
use Rattle.upi_base.proofs.Lists.{sum_more}
use Rattle.upi_model.specs.Accounts.{kept_share}
use Rattle.upi_replay.proofs.kept.kept_total.Goals as goal

pub loop-row-preserved : goal.loop-row-preserved
loop-row-preserved c =
    let more = sum_more (kept_share c.args.ac.now c.args.leg) c.args.rows.now c.loop-row.row-index c.row-item.result c.loop-row-test.true c.row-item.is in
    (omega (arith, more, c.kept_share.ensures.share, c.from-sum.ensures, c.loop-row.invariant.0), omega (arith, c.kept_share.ensures.bound, c.from-sum.ensures, c.loop-row.invariant.1))
