use Rattle.upi_model.specs.Accounts.{order_of}
use Rattle.bank_shards.proofs.Calls.{IsRead, arrived, can_here, room_left}
use Rattle.bank_shards.proofs.banks.BankShards.arrive.Goals as goal

pub arrive-moved-requires-clause-order : goal.arrive-moved-requires-clause-order
arrive-moved-requires-clause-order c =
    let read : IsRead c.args.self.now c.self.inside.shards.items c.place_of-place.result c.index_mut-shard.result.now =
    record { same = c.self.view_is; sixteen = c.self.invariant; within = c.place_of-place.ensures.bound; is = c.index_mut-shard.ensures.value } in
    can_here c.args.self.now c.self.inside.shards.items c.place_of-place.result c.index_mut-shard.result.now read (order_of c.args.order.body) c.place_of-place.ensures.value c.requires.order

pub returns-clause-stands : goal.returns-clause-stands
returns-clause-stands c =
    let read : IsRead c.args.self.now c.self.inside.shards.items c.place_of-place.result c.index_mut-shard.result.now =
    record { same = c.self.view_is; sixteen = c.self.invariant; within = c.place_of-place.ensures.bound; is = c.index_mut-shard.ensures.value } in
    arrived c.args.self.now c.self.inside.shards.items c.place_of-place.result c.index_mut-shard.result.now read (order_of c.args.order.body) c.arrive-moved.new.self c.place_of-place.ensures.value c.requires.order c.arrive-moved.ensures.stands

pub returns-clause-room : goal.returns-clause-room
returns-clause-room c =
    let read : IsRead c.args.self.now c.self.inside.shards.items c.place_of-place.result c.index_mut-shard.result.now =
    record { same = c.self.view_is; sixteen = c.self.invariant; within = c.place_of-place.ensures.bound; is = c.index_mut-shard.ensures.value } in
    room_left c.args.self.now c.self.inside.shards.items c.place_of-place.result c.index_mut-shard.result.now read c.arrive-moved.new.self c.arrive-moved.ensures.room
