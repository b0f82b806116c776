use Rattle.upi_model.specs.Accounts.{order_of}
use Rattle.bank_shards.proofs.Calls.{IsRead, can_here, ok_planned, ok_history, same_all}
use Rattle.bank_shards.proofs.banks.BankShards.plan.Goals as goal

pub plan-requires : goal.plan-requires
plan-requires c =
    let read : IsRead c.args.self.now c.self.inside.shards.items c.place_of-place.result c.index_mut-shard.result.now =
    record { same = c.self.view_is; sixteen = c.self.invariant; within = c.place_of-place.ensures.bound; is = c.index_mut-shard.ensures.value } in
    can_here c.args.self.now c.self.inside.shards.items c.place_of-place.result c.index_mut-shard.result.now read (order_of c.args.order.now.body) c.place_of-place.ensures.value c.requires

pub returns-clause-planned : goal.returns-clause-planned
returns-clause-planned c =
    let read : IsRead c.args.self.now c.self.inside.shards.items c.place_of-place.result c.index_mut-shard.result.now =
    record { same = c.self.view_is; sixteen = c.self.invariant; within = c.place_of-place.ensures.bound; is = c.index_mut-shard.ensures.value } in
    ok_planned c.args.self.now c.self.inside.shards.items c.place_of-place.result c.index_mut-shard.result.now read c.plan.result c.args.order.now c.plan.new.self c.place_of-place.ensures.value c.plan.ensures.planned c.plan.ensures.answer

pub returns-clause-history : goal.returns-clause-history
returns-clause-history c =
    let read : IsRead c.args.self.now c.self.inside.shards.items c.place_of-place.result c.index_mut-shard.result.now =
    record { same = c.self.view_is; sixteen = c.self.invariant; within = c.place_of-place.ensures.bound; is = c.index_mut-shard.ensures.value } in
    ok_history c.args.self.now c.self.inside.shards.items c.place_of-place.result c.index_mut-shard.result.now read c.plan.result c.args.order.now c.place_of-place.ensures.value c.plan.ensures.answer c.plan.ensures.legal

pub returns-clause-same : goal.returns-clause-same
returns-clause-same c =
    let read : IsRead c.args.self.now c.self.inside.shards.items c.place_of-place.result c.index_mut-shard.result.now =
    record { same = c.self.view_is; sixteen = c.self.invariant; within = c.place_of-place.ensures.bound; is = c.index_mut-shard.ensures.value } in
    same_all c.args.self.now c.self.inside.shards.items c.place_of-place.result c.index_mut-shard.result.now read c.plan.new.self c.plan.ensures.legs c.plan.ensures.book
