use Rattle.std.proofs.Common.{◌≡◌, take, map}
use Rattle.upi_base.specs.Setup.{accounts}
use Rattle.upi_words.specs.Prelude.{History}
use Rattle.core_shards.specs.Tables.{StandsAll, with_balance}
use Rattle.core_shards.proofs.tables.CoreShards.balances.Given as goal

abbrev pub invariant-loop-at : goal.invariant-loop-at
invariant-loop-at l = (h : History) → StandsAll h l.self → l.all.items ≡ map (with_balance l.self.lines h) (accounts (take l.at l.self.lines))
