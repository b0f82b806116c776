use Rattle.std.proofs.Common.{Some, ap, ◌∙◌}
use Rattle.upi_words.specs.Prelude.{Call}
use Rattle.upi_base.specs.Shards.{txn_shard}
use Rattle.txn_shards.proofs.Calls.{IsRead, delivered_is, rows_stay, step_makes, step_planned}
use Rattle.txn_shards.proofs.txns.TxnShards.plan_delivered.Goals as goal

pub returns-in_err-step-clause-rows : goal.returns-in_err-step-clause-rows
returns-in_err-step-clause-rows c =
    let read : IsRead c.args.self.now c.self.inside.shards.items c.txn_shard-place.result c.index_mut-shard.result.now =
    record { same = c.self.view_is; sixteen = c.self.invariant; within = c.txn_shard-place.ensures.bound; is = c.index_mut-shard.ensures.value } in
    rows_stay c.args.self.now c.self.inside.shards.items c.txn_shard-place.result c.index_mut-shard.result.now read c.plan_delivered.new.self c.in_err-step.ensures.rows

pub returns-clause-planned : goal.returns-clause-planned
returns-clause-planned c =
    let read : IsRead c.args.self.now c.self.inside.shards.items c.txn_shard-place.result c.index_mut-shard.result.now =
    record { same = c.self.view_is; sixteen = c.self.invariant; within = c.txn_shard-place.ensures.bound; is = c.index_mut-shard.ensures.value } in
    step_planned c.args.self.now c.self.inside.shards.items c.txn_shard-place.result c.index_mut-shard.result.now read c.plan_delivered.new.self c.in_ok-step.step c.in_ok-step.ensures.planned

pub returns-clause-makes : goal.returns-clause-makes
returns-clause-makes c = λ n.
    let read : IsRead c.args.self.now c.self.inside.shards.items c.txn_shard-place.result c.index_mut-shard.result.now =
    record { same = c.self.view_is; sixteen = c.self.invariant; within = c.txn_shard-place.ensures.bound; is = c.index_mut-shard.ensures.value } in
    let owner = delivered_is c.args.message.now c.txn_shard-place.result c.requires (c.txn_shard-place.ensures.value ∙ ap txn_shard c.txn_of.ensures) in
    step_makes c.args.self.now c.self.inside.shards.items c.txn_shard-place.result c.index_mut-shard.result.now read c.args.dir.now.lines (Call.Deliver n) (Some c.args.message.now) c.args.now c.in_ok-step.step owner (c.in_ok-step.ensures.makes c.txn_shard-place.result owner)

pub returns-clause-rows : goal.returns-clause-rows
returns-clause-rows c =
    let read : IsRead c.args.self.now c.self.inside.shards.items c.txn_shard-place.result c.index_mut-shard.result.now =
    record { same = c.self.view_is; sixteen = c.self.invariant; within = c.txn_shard-place.ensures.bound; is = c.index_mut-shard.ensures.value } in
    rows_stay c.args.self.now c.self.inside.shards.items c.txn_shard-place.result c.index_mut-shard.result.now read c.plan_delivered.new.self c.in_ok-step.ensures.rows
