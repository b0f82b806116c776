use Rattle.core_shards.proofs.Commits.{begins}
use Rattle.core_shards.proofs.tables.CoreShards.new.Goals as goal

pub returns-clause-stands : goal.returns-clause-stands
returns-clause-stands c = begins c.args.dir.lines c.in_ok-txns.txns c.in_ok-banks.banks c.new-2.result c.setup-accepted.ensures.accepted c.new-2.ensures (c.in_ok-txns.ensures c.args.dir.lines) c.in_ok-banks.ensures
