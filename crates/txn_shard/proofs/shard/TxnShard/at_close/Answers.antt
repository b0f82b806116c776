use Rattle.std.proofs.Common.{List, ◌++◌, sym, ap, ◌∙◌}
use Rattle.std.specs.Prelude.{slice_get}
use Rattle.upi_words.specs.Prelude.{Sent}
use Rattle.txn_shard.specs.calls.Plans.{returned_by}
use Rattle.txn_shard.proofs.Lists.{returned_more}
use Rattle.txn_shard.proofs.shard.TxnShard.at_close.Goals as goal

pub rows-preserved : goal.rows-preserved
rows-preserved c =
    let S = c.args.dir.now.lines in
    let rows = c.args.self.now.rows in
    c.in_ok-return_at.ensures ∙ ap (λ (ms : List Sent). ms ++ returned_by S (slice_get rows c.rows.place)) c.rows.invariant ∙ sym (returned_more S rows c.rows.place)
