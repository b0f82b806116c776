use Rattle.std.proofs.Common.{ℕ, Some, ap, sym, ◌∙◌}
use Rattle.upi_base.specs.Shards.{txn_shard}
use Rattle.upi_words.specs.Prelude.{Call, Owner}
use Rattle.txn_shards.proofs.Calls.{IsRead, step_makes, step_planned_here}
use Rattle.txn_shards.proofs.txns.TxnShards.plan_lost.Goals as goal

pub returns-clause-planned : goal.returns-clause-planned
returns-clause-planned c =
    let read : IsRead c.args.self.now c.self.inside.shards.items c.txn_shard-place.result c.index-shard.result.now =
    record { same = c.self.view_is; sixteen = c.self.invariant; within = c.txn_shard-place.ensures.bound; is = c.index-shard.ensures } in
    step_planned_here c.args.self.now c.self.inside.shards.items c.txn_shard-place.result c.index-shard.result.now read c.plan_lost-step.result c.plan_lost-step.ensures.planned

pub returns-clause-makes : goal.returns-clause-makes
returns-clause-makes c = λ S n now.
    let read : IsRead c.args.self.now c.self.inside.shards.items c.txn_shard-place.result c.index-shard.result.now =
    record { same = c.self.view_is; sixteen = c.self.invariant; within = c.txn_shard-place.ensures.bound; is = c.index-shard.ensures } in
    step_makes c.args.self.now c.self.inside.shards.items c.txn_shard-place.result c.index-shard.result.now read S (Call.Lose n) (Some c.args.message.now) now c.plan_lost-step.result (ap (λ (k : ℕ). Owner.Txns k) (sym (c.txn_shard-place.ensures.value ∙ ap txn_shard c.txn_of.ensures))) (c.plan_lost-step.ensures.makes S c.txn_shard-place.result now)
