use Rattle.std.proofs.Common.{◌<◌, length, ◌∙◌, arith}
use Rattle.bank_shards.specs.Banks.{without_room}
use Rattle.bank_shards.proofs.Calls.{room_all, room_more}
use Rattle.bank_shards.proofs.Places.{get_is, map_length, map_set}
use Rattle.bank_shards.proofs.banks.reserve_each.Goals as goal

pub returns-in_err-reserve-clause-same : goal.returns-in_err-reserve-clause-same
returns-in_err-reserve-clause-same c =
    let long : c.loop-place.place < length c.loop-place.shards.items = let e = map_length without_room c.loop-place.shards.items c.args.shards.now.items c.loop-place.invariant.0 in omega (arith, e, c.len-place-end.ensures, c.loop-place-test.true, c.args.shards.now.ok) in
    map_set without_room c.loop-place.shards.items c.loop-place.place c.reserve.new.self c.index_mut-shard.result.now (get_is c.loop-place.shards.items c.loop-place.place c.index_mut-shard.result.now long c.index_mut-shard.ensures.value)
    (λ i. record { legs = c.in_err-reserve.ensures.legs i; book = c.in_err-reserve.ensures.book i; spare = 0 })
    ∙ c.loop-place.invariant.0

pub loop-place-preserved : goal.loop-place-preserved
loop-place-preserved c =
    let long : c.loop-place.place < length c.loop-place.shards.items = let e = map_length without_room c.loop-place.shards.items c.args.shards.now.items c.loop-place.invariant.0 in omega (arith, e, c.len-place-end.ensures, c.loop-place-test.true, c.args.shards.now.ok) in (
      map_set without_room c.loop-place.shards.items c.loop-place.place c.reserve.new.self c.index_mut-shard.result.now (get_is c.loop-place.shards.items c.loop-place.place c.index_mut-shard.result.now long c.index_mut-shard.ensures.value)
          (λ i. record { legs = c.in_ok-reserve.ensures.legs i; book = c.in_ok-reserve.ensures.book i; spare = 0 })
          ∙ c.loop-place.invariant.0,
      room_more c.args.n c.loop-place.shards.items c.loop-place.place c.reserve.new.self long c.in_ok-reserve.ensures.ok c.loop-place.invariant.1,
    )

pub returns-clause-ok : goal.returns-clause-ok
returns-clause-ok c = room_all c.args.n c.loop-place.shards.items (λ k p lt is. c.loop-place.invariant.1 k p (let e = map_length without_room c.loop-place.shards.items c.args.shards.now.items c.loop-place.invariant.0 in omega (arith, e, lt, c.len-place-end.ensures, c.loop-place-test.false, c.args.shards.now.ok)) is)
