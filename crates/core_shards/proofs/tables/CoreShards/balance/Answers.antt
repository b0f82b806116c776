use Rattle.std.proofs.Common.{◌≡◌, subst}
use Rattle.upi_words.specs.Prelude.{History}
use Rattle.bank_shards.specs.Histories.{balance_named}
use Rattle.core_shards.specs.Tables.{StandsAll, Tables}
use Rattle.core_shards.proofs.tables.CoreShards.balance.Goals as goal

pub returns : goal.returns
returns c =
    subst (λ (o : Tables). (h : History) → StandsAll h o → c.balance.result ≡ balance_named o.lines h c.args.ac.now) c.self.view_is
    (λ h all. c.balance.ensures.history c.self.inside.dir.lines h all.legal all.banks_stand)
