use Rattle.std.proofs.Common.{◌≡◌, sym, subst}
use Rattle.upi_words.specs.Prelude.{History, outcome_of}
use Rattle.core_shards.specs.Tables.{StandsAll, Tables}
use Rattle.core_shards.proofs.tables.CoreShards.outcome.Goals as goal

pub returns : goal.returns
returns c =
    subst (λ (o : Tables). (h : History) → StandsAll h o → c.outcome.result ≡ outcome_of o.lines c.args.txn.now h) c.self.view_is
    (λ h all. c.outcome.ensures c.self.inside.dir.lines h (sym all.closed_is) all.txns_stand)
