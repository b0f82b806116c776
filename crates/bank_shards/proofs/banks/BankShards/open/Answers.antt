use Rattle.bank_shards.proofs.Calls.{IsRead, opened}
use Rattle.bank_shards.proofs.banks.BankShards.open.Goals as goal

pub returns : goal.returns
returns c =
    let read : IsRead c.args.self.now c.self.inside.shards.items c.account_shard-place.result c.index_mut-shard.result.now =
    record { same = c.self.view_is; sixteen = c.self.invariant; within = c.account_shard-place.ensures.bound; is = c.index_mut-shard.ensures.value } in
    record { stands = opened c.args.self.now c.self.inside.shards.items c.account_shard-place.result c.index_mut-shard.result.now read c.open.result c.args.account c.open.new.self c.account_shard-place.ensures.value c.open.ensures.stands }
