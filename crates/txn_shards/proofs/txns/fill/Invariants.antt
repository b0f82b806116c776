use Rattle.std.proofs.Common.{◌≡◌, ◌+◌, length}
use Rattle.std.specs.List.{AllByRecursion}
use Rattle.txn_shards.specs.Txns.{IsBare}
use Rattle.txn_shards.proofs.txns.fill.Given as goal

abbrev pub invariant-loop-made : goal.invariant-loop-made
invariant-loop-made l = (AllByRecursion IsBare l.shards.items) × (length l.shards.items ≡ length l.initial.shards.items + l._made)
