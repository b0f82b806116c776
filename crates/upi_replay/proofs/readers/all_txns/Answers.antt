use Rattle.std.proofs.Common.{◌∷◌, [], ◌++◌, ◌∙◌, sym}
use Rattle.upi_base.proofs.Lists.{map_more}
use Rattle.upi_replay.specs.Banked.{IsBanked, row_txn}
use Rattle.upi_replay.proofs.Readings.{all_at}
use Rattle.upi_replay.proofs.readers.all_txns.Goals as goal

pub txn_of_row-requires : goal.txn_of_row-requires
txn_of_row-requires c = all_at (IsBanked c.args.setup.now) c.args.rows.now c.loop-row.row-index c.row-item.result c.requires c.loop-row-test.true c.row-item.is

pub loop-row-preserved : goal.loop-row-preserved
loop-row-preserved c =
    c.in_ok-push.ensures.items
    ∙ ((λ i. c.loop-row.invariant i ++ c.txn_of_row.ensures i ∷ [])
    ∙ sym (map_more (row_txn c.args.setup.now) c.args.rows.now c.loop-row.row-index c.row-item.result c.loop-row-test.true c.row-item.is))
