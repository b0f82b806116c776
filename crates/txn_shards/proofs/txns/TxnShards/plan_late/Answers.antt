use Rattle.std.proofs.Common.{ℕ, None, ap, sym}
use Rattle.upi_words.specs.Prelude.{Call, Owner}
use Rattle.txn_shards.proofs.Calls.{IsRead, rows_stay, step_makes, step_planned}
use Rattle.txn_shards.proofs.txns.TxnShards.plan_late.Goals as goal

pub returns-in_err-step-clause-rows : goal.returns-in_err-step-clause-rows
returns-in_err-step-clause-rows c =
    let read : IsRead c.args.self.now c.self.inside.shards.items c.txn_shard-place.result c.index_mut-shard.result.now =
    record { same = c.self.view_is; sixteen = c.self.invariant; within = c.txn_shard-place.ensures.bound; is = c.index_mut-shard.ensures.value } in
    rows_stay c.args.self.now c.self.inside.shards.items c.txn_shard-place.result c.index_mut-shard.result.now read c.plan_late.new.self c.in_err-step.ensures.rows

pub returns-clause-planned : goal.returns-clause-planned
returns-clause-planned c =
    let read : IsRead c.args.self.now c.self.inside.shards.items c.txn_shard-place.result c.index_mut-shard.result.now =
    record { same = c.self.view_is; sixteen = c.self.invariant; within = c.txn_shard-place.ensures.bound; is = c.index_mut-shard.ensures.value } in
    step_planned c.args.self.now c.self.inside.shards.items c.txn_shard-place.result c.index_mut-shard.result.now read c.plan_late.new.self c.in_ok-step.step c.in_ok-step.ensures.planned

pub returns-clause-makes : goal.returns-clause-makes
returns-clause-makes c =
    let read : IsRead c.args.self.now c.self.inside.shards.items c.txn_shard-place.result c.index_mut-shard.result.now =
    record { same = c.self.view_is; sixteen = c.self.invariant; within = c.txn_shard-place.ensures.bound; is = c.index_mut-shard.ensures.value } in
    let number = sym c.txn_shard-place.ensures.value in
    step_makes c.args.self.now c.self.inside.shards.items c.txn_shard-place.result c.index_mut-shard.result.now read c.args.dir.now.lines (Call.Late c.args.txn.now) None c.args.now c.in_ok-step.step (ap (λ (n : ℕ). Owner.Txns n) number) (c.in_ok-step.ensures.makes c.txn_shard-place.result)

pub returns-clause-rows : goal.returns-clause-rows
returns-clause-rows c =
    let read : IsRead c.args.self.now c.self.inside.shards.items c.txn_shard-place.result c.index_mut-shard.result.now =
    record { same = c.self.view_is; sixteen = c.self.invariant; within = c.txn_shard-place.ensures.bound; is = c.index_mut-shard.ensures.value } in
    rows_stay c.args.self.now c.self.inside.shards.items c.txn_shard-place.result c.index_mut-shard.result.now read c.plan_late.new.self c.in_ok-step.ensures.rows
