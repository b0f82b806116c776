use Rattle.upi_replay.specs.Rows.{row_after}
use Rattle.upi_replay.proofs.Writes.{write_more}
use Rattle.upi_replay.proofs.found.advance_rows.Goals as goal

pub loop-row-preserved : goal.loop-row-preserved
loop-row-preserved c =
    write_more (row_after c.args.setup.now c.args.said c.args.closed c.args.event.now c.args.now) c.args.rows.now c.loop-row.rows c.loop-row.row-index c.row-item.result c.advance_row.new.row
    c.loop-row-test.true c.loop-row.invariant c.row-item.is c.advance_row.ensures
