use Rattle.std.proofs.Common.{None, ℕ}
use Rattle.upi_words.specs.Prelude.{Event}
use Rattle.upi_base.specs.declared.entry.{ShardCall.ShardCall}
use Rattle.txn_shard.specs.Shard.{Plan, MakesAll}
use Rattle.txn_shard.proofs.Plans.{ok_plan, CallAll, call_same, call_as}
use Rattle.txn_shard.proofs.shard.TxnShard.plan.Goals as goal

pub returns-in-Hear-clause-makes : goal.returns-in-Hear-clause-makes
returns-in-Hear-clause-makes c =
    call_same c.args.dir.now.lines c.args.self.now.rows c.args.now c.args.call.now (ShardCall.Hear c.in-Hear.psp c.in-Hear.input) c.plan_heard.result c.in-Hear.is c.plan_heard.ensures.makes

pub returns-in-Deliver-clause-makes : goal.returns-in-Deliver-clause-makes
returns-in-Deliver-clause-makes c =
    call_same c.args.dir.now.lines c.args.self.now.rows c.args.now c.args.call.now (ShardCall.Deliver c.in-Deliver.message) c.plan_delivered.result c.in-Deliver.is c.plan_delivered.ensures.makes

pub returns-in-Lose-clause-makes : goal.returns-in-Lose-clause-makes
returns-in-Lose-clause-makes c =
    let S = c.args.dir.now.lines in
    call_as S c.args.self.now.rows c.args.now c.args.call.now (ShardCall.Lose c.in-Lose._message) c.plan_lost.result c.in-Lose.is (λ s its. c.plan_lost.ensures.makes S s c.args.now)

pub returns-in-Late-clause-makes : goal.returns-in-Late-clause-makes
returns-in-Late-clause-makes c =
    let S = c.args.dir.now.lines in
    let rows = c.args.self.now.rows in
    call_same S rows c.args.now c.args.call.now (ShardCall.Late c.in-Late.txn) c.plan_late.result c.in-Late.is
    (ok_plan (λ (q : Plan). (s : ℕ) → MakesAll S s rows (Event.Late c.in-Late.txn) None c.args.now q) (CallAll S rows c.args.now (ShardCall.Late c.in-Late.txn)) (λ q makes s its. makes s) c.plan_late.result c.plan_late.ensures.makes)
