use Rattle.std.proofs.Common.{◌≡◌, take, map}
use Rattle.upi_words.specs.Prelude.{History, opened}
use Rattle.upi_model.specs.Settlement.{txn_row}
use Rattle.core_shards.specs.Tables.{StandsAll}
use Rattle.core_shards.proofs.tables.CoreShards.rows.Given as goal

abbrev pub invariant-loop-place : goal.invariant-loop-place
invariant-loop-place l = (h : History) → StandsAll h l.self → l.out.items ≡ map (txn_row l.self.lines h) (take l.place (opened l.self.lines h))
