use Rattle.std.proofs.Common.{◌≡◌, ◌+◌, length}
use Rattle.std.specs.List.{AllByRecursion}
use Rattle.bank_shards.specs.Banks.{IsFresh}
use Rattle.bank_shards.proofs.banks.fill.Given as goal

abbrev pub invariant-loop-made : goal.invariant-loop-made
invariant-loop-made l = (AllByRecursion IsFresh l.shards.items) × (length l.shards.items ≡ length l.initial.shards.items + l._made)
