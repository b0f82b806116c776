use Rattle.std.proofs.Common.{List, arith, length, ap, map, ◌∙◌}
use Rattle.std.specs.Prelude.{slice_get}
use Rattle.std.specs.Option.{option_map}
use Rattle.std.proofs.lemmas.List.{length-map, take_all}
use Rattle.upi_base.specs.Lists.{joined}
use Rattle.upi_words.specs.Prelude.{Text, TxnRow, opened}
use Rattle.upi_model.specs.Settlement.{txn_row}
use Rattle.txn_shards.specs.Txns.{name_of}
use Rattle.core_shards.specs.Tables.{Tables}
use Rattle.core_shards.proofs.Report.{rows_more}
use Rattle.core_shards.proofs.tables.CoreShards.rows.Goals as goal

pub loop-place-preserved : goal.loop-place-preserved
loop-place-preserved c = λ h all.
    let S = c.args.self.now.lines in
    c.in_ok-add_row.ensures h all
    ∙ ap (λ (rows : List TxnRow). joined rows (option_map (txn_row S h) (slice_get (opened S h) c.loop-place.place))) (c.loop-place.invariant h all)
    ∙ rows_more (txn_row S h) (opened S h) c.loop-place.place

pub returns : goal.returns
returns c = λ h all.
    let S = c.args.self.now.lines in
    let past = c.loop-place-test.false in
    let end = c.len-place-end.ensures in
    let names = ap (λ (xs : List Text). length xs) (ap (λ (v : Tables). v.opened.names) c.self.view_is ∙ all.names_are) in
    let long = length-map (opened S h) name_of in
    c.loop-place.invariant h all ∙ ap (map (txn_row S h)) (take_all c.loop-place.place (opened S h) (omega (arith, past, end, names, long)))
