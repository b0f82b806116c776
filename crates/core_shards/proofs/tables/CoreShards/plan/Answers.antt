use Rattle.core_shards.specs.Tables.{Tables}
use Rattle.core_shards.proofs.Commits.{names_same, same_stands}
use Rattle.core_shards.proofs.tables.CoreShards.plan.Goals as goal

pub returns-clause-same : goal.returns-clause-same
returns-clause-same c = λ h all.
    let v : Tables = record { lines = c.self.inside.dir.lines; txns = c.self.inside.txns; banks = c.self.inside.banks; opened = c.self.inside.opened; flight = c.self.inside.flight; closed = c.self.inside.closed } in
    let mid : Tables = record { lines = c.self.inside.dir.lines; txns = c.self.inside.txns; banks = c.self.inside.banks; opened = c.reserve.new.self; flight = c.self.inside.flight; closed = c.self.inside.closed } in
    same_stands h mid c.plan_call.new.self c.plan_call.ensures.same (same_stands h c.args.self.now mid (names_same v c.args.self.now c.reserve.new.self c.self.view_is c.reserve.ensures.same) all)
