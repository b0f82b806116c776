use Rattle.std.proofs.Common.{◌≡◌, take}
use Rattle.upi_model.specs.Settlement.{recon_items}
use Rattle.settlement.proofs.rows.reconciled.Given as goal

abbrev pub invariant-loop-row : goal.invariant-loop-row
invariant-loop-row l = l.out.items ≡ recon_items (take l.row-index l.rows)
