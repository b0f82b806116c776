use Rattle.std.proofs.Common.{ap, ◌∙◌}
use Rattle.txn_shard.proofs.Plans.{plan_with, opening_at}
use Rattle.txn_shard.proofs.shard.TxnShard.opened.Goals as goal

pub returns : goal.returns
returns c = record {
  row = c.begin-row.result;
  opening_is = c.begin-row.ensures.opening ∙ ap (opening_at c.args.now) c.copy.ensures;
  opens = c.begin-row.ensures.begins;
  is = ap (plan_with c.begin-row.result) c.in_ok-sent.ensures;
}
