use Rattle.std.proofs.Common.{◌≡◌, ◌<◌, drop}
use Rattle.upi_base.specs.Shards.{hash_after}
use Rattle.upi_base.proofs.shards.hash_after.Given as goal

abbrev pub invariant-loop-byte : goal.invariant-loop-byte
invariant-loop-byte l = (l.hash < 65_521) × (hash_after l.hash (drop l.byte-index l.text) ≡ hash_after l.before l.text)
