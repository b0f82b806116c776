use Rattle.std.proofs.Common.{◌∙◌, ap}
use Rattle.upi_base.specs.Shards.{account_shard}
use Rattle.bank_shards.proofs.Calls.{IsRead, committed}
use Rattle.bank_shards.proofs.banks.BankShards.commit.Goals as goal

pub returns : goal.returns
returns c =
    let read : IsRead c.args.self.now c.self.inside.shards.items c.account_shard-place.result c.index_mut-shard.result.now =
    record { same = c.self.view_is; sixteen = c.self.invariant; within = c.account_shard-place.ensures.bound; is = c.index_mut-shard.ensures.value } in
    record { stands = committed c.args.self.now c.self.inside.shards.items c.account_shard-place.result c.index_mut-shard.result.now read c.args.step.order c.commit.new.self (c.account_shard-place.ensures.value ∙ ap account_shard c.account.ensures) c.commit.ensures.stands }
