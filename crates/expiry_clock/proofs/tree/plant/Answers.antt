use Rattle.std.proofs.Common.{◌≤◌, ◌+◌, length, sym, ap, arith}
use Rattle.expiry_clock.specs.Dues.{Rows}
use Rattle.expiry_clock.proofs.Plants.{IsFilled, filled_next}
use Rattle.expiry_clock.proofs.Finds.{row_value}
use Rattle.expiry_clock.proofs.tree.plant.Goals as goal

pub rows-preserved : goal.rows-preserved
rows-preserved c =
    let at_row = rw c.unwrap.ensures at c.get_index.ensures.entry in
    let value = row_value c.args.rows.now.entries c.rows.at c.unwrap.result.0.now c.unwrap.result.1.now (sym at_row) in
    rw (c.write.ensures.leaves, c.write.ensures.height)
    (filled_next c.rows.tree.leaves c.rows.tree.height c.rows.at c.unwrap.result.1.now c.rows.tree.cells.items c.write.new.self.cells.items c.args.rows.now.entries c.rows.invariant.0 (omega (arith, c.len-at-end.ensures.len)) value c.write.ensures.writes, c.rows.invariant.1)
