use Rattle.std.proofs.Common.{[], None}
use Rattle.upi_words.specs.Prelude.{Event, Reply}
use Rattle.txn_shard.specs.calls.Plans.{quiet}
use Rattle.txn_shard.proofs.Quiet.{lost_makes}
use Rattle.txn_shard.proofs.Plans.{makes_same}
use Rattle.txn_shard.proofs.shard.TxnShard.plan_lost.Goals as goal

pub returns-clause-makes : goal.returns-clause-makes
returns-clause-makes c = λ S s now.
    makes_same S s c.args.self.now.rows Event.Lost None now c.replied.result (quiet Reply.Lost []) c.replied.ensures (lost_makes S s c.args.self.now.rows now)
