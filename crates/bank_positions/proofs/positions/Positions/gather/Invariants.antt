use Rattle.std.proofs.Common.{◌≡◌, ◌<◌, ℕ, length}
use Rattle.std.specs.Prelude.{slice_index_or}
use Rattle.bank_positions.specs.declared.position.Position.{Position}
use Rattle.bank_positions.specs.Sums.{gathered}
use Rattle.bank_positions.specs.calls.Rule.{Knows}
use Rattle.bank_positions.proofs.positions.Positions.gather.Given as goal

abbrev pub invariant-loop-bank : goal.invariant-loop-bank
invariant-loop-bank g l =
    Knows g.N.PositionsName.layout.table g.N.PositionsName.layout.shards l.fn.shares.items l.all × (length l.out ≡ g.N.PositionsName.layout.banks)
    × ((k : ℕ) (d : Position) → k < l.bank → slice_index_or l.out k d ≡ gathered l.fn.shares.items k)
