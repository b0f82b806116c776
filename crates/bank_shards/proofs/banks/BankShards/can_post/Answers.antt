use Rattle.upi_model.specs.Accounts.{order_of}
use Rattle.bank_shards.proofs.Calls.{IsRead, can_all, can_here}
use Rattle.bank_shards.proofs.banks.BankShards.can_post.Goals as goal

pub returns-clause-then : goal.returns-clause-then
returns-clause-then c = λ yes.
    let read : IsRead c.args.self.now c.self.inside.shards.items c.place_of-place.result c.index-shard.result.now =
    record { same = c.self.view_is; sixteen = c.self.invariant; within = c.place_of-place.ensures.bound; is = c.index-shard.ensures } in
    can_all c.args.self.now c.self.inside.shards.items c.place_of-place.result c.index-shard.result.now read (order_of c.args.order.now.body) c.place_of-place.ensures.value (c.can_post.ensures.then yes)

pub returns-clause-only : goal.returns-clause-only
returns-clause-only c = λ can.
    let read : IsRead c.args.self.now c.self.inside.shards.items c.place_of-place.result c.index-shard.result.now =
    record { same = c.self.view_is; sixteen = c.self.invariant; within = c.place_of-place.ensures.bound; is = c.index-shard.ensures } in
    c.can_post.ensures.only (can_here c.args.self.now c.self.inside.shards.items c.place_of-place.result c.index-shard.result.now read (order_of c.args.order.now.body) c.place_of-place.ensures.value can)
