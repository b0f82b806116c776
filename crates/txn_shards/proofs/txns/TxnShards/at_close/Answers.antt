use Rattle.std.proofs.Common.{ap, arith, length, List, ◌++◌, ◌∙◌}
use Rattle.std.specs.Prelude.{slice_get}
use Rattle.upi_words.specs.Prelude.{Sent}
use Rattle.txn_shard.specs.Rows.{Shard}
use Rattle.txn_shards.specs.Txns.{returns_of, rows_all}
use Rattle.txn_shards.proofs.Changes.{returns_more}
use Rattle.txn_shards.proofs.Histories.{length_rows}
use Rattle.txn_shards.proofs.txns.TxnShards.at_close.Goals as goal

pub loop-place-preserved : goal.loop-place-preserved
loop-place-preserved c =
    let there = c.loop-place-test.true in
    let same = ap (λ (xs : List Shard). length (rows_all xs)) c.self.view_is in
    let long = length_rows c.self.inside.shards.items in
    let sixteen = c.self.invariant in
    c.in_ok-returns_at.ensures
    ∙ ap (λ (ms : List Sent). ms ++ returns_of c.args.dir.now.lines (slice_get (rows_all c.args.self.now) c.loop-place.place)) c.loop-place.invariant
    ∙ returns_more c.args.dir.now.lines (rows_all c.args.self.now) c.loop-place.place (omega (arith, there, same, long, sixteen))
