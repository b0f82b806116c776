use Rattle.std.proofs.Common.{List, length, ap, sym, subst, ◌∙◌, arith}
use Rattle.std.specs.Prelude.{slice_get}
use Rattle.txn_shard.specs.Rows.{Shard}
use Rattle.txn_shards.specs.Txns.{IsPlannedIn, Placed, rows_all, rows_with}
use Rattle.txn_shards.proofs.Calls.{IsRead, found, rows_change}
use Rattle.txn_shards.proofs.Changes.{planned_at, planned_within}
use Rattle.txn_shards.proofs.txns.TxnShards.commit.Goals as goal

pub index_mut-shard-requires : goal.index_mut-shard-requires
index_mut-shard-requires c =
    let w = planned_within c.args.self.now c.args.step c.requires in
    let e = ap (λ (x : Placed). x.place) c.step.view_is in
    let n = ap length c.self.view_is in
    omega (arith, w, e, n)

pub commit-requires : goal.commit-requires
commit-requires c =
    let w = planned_within c.args.self.now c.args.step c.requires in
    let e = ap (λ (x : Placed). x.place) c.step.view_is in
    let n = ap length c.self.view_is in
    let i = c.self.invariant in
    let read : IsRead c.args.self.now c.self.inside.shards.items c.step.inside.place c.index_mut-shard.result.now =
    record { same = c.self.view_is; sixteen = c.self.invariant; within = omega (arith, w, e, n, i); is = c.index_mut-shard.ensures.value } in
    planned_at c.args.self.now (record { place = c.step.inside.place; plan = c.step.inside.step }) c.index_mut-shard.result.now
    (ap (λ (ys : List Shard). slice_get ys c.step.inside.place) (sym c.self.view_is) ∙ found c.args.self.now c.self.inside.shards.items c.step.inside.place c.index_mut-shard.result.now read)
    (subst (λ (x : Placed). IsPlannedIn c.args.self.now x) (sym c.step.view_is) c.requires)

pub returns : goal.returns
returns c =
    let w = planned_within c.args.self.now c.args.step c.requires in
    let e = ap (λ (x : Placed). x.place) c.step.view_is in
    let n = ap length c.self.view_is in
    let i = c.self.invariant in
    let read : IsRead c.args.self.now c.self.inside.shards.items c.step.inside.place c.index_mut-shard.result.now =
    record { same = c.self.view_is; sixteen = c.self.invariant; within = omega (arith, w, e, n, i); is = c.index_mut-shard.ensures.value } in
    rows_change c.args.self.now c.self.inside.shards.items c.step.inside.place c.index_mut-shard.result.now read c.commit.new.self c.step.inside.step.change c.commit.ensures.rows
    ∙ ap (λ (x : Placed). rows_with (rows_all c.args.self.now) x.place x.plan.change) c.step.view_is
