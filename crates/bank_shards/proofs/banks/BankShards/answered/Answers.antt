use Rattle.std.proofs.Common.{◌∙◌, sym, ap}
use Rattle.std.specs.Prelude.{slice_get}
use Rattle.bank_shards.specs.Histories.{orders_in}
use Rattle.bank_shards.proofs.Answers.{answer_here}
use Rattle.bank_shards.proofs.Calls.{IsRead, found_old}
use Rattle.upi_base.specs.Shards.{account_shard}
use Rattle.bank_shards.proofs.banks.BankShards.answered.Goals as goal

pub returns-clause-history : goal.returns-clause-history
returns-clause-history c = λ S h q a legal all begun held named.
    let read : IsRead c.args.self.now c.self.inside.shards.items c.account_shard-place.result c.index-shard.result.now =
    record { same = c.self.view_is; sixteen = c.self.invariant; within = c.account_shard-place.ensures.bound; is = c.index-shard.ensures } in
    let found = found_old c.args.self.now c.self.inside.shards.items c.account_shard-place.result c.index-shard.result.now read in
    c.answered.ensures.definition S (account_shard c.args.ac.now) (orders_in S h (account_shard c.args.ac.now))
    (all.each (account_shard c.args.ac.now) c.index-shard.result.now (ap (slice_get c.args.self.now) (sym c.account_shard-place.ensures.value) ∙ found))
    ∙ answer_here S h c.args.txn.now c.args.leg q a c.args.ac.now legal begun held named
