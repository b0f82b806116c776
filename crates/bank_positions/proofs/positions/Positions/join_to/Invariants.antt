use Rattle.std.proofs.Common.{◌≡◌, ◌+◌, ℕ, [], length}
use Rattle.std.specs.Prelude.{slice_index}
use Rattle.part_sums.specs.Totals.{total}
use Rattle.bank_positions.proofs.positions.Positions.join_to.Given as goal

abbrev pub invariant-loop-share : goal.invariant-loop-share
invariant-loop-share g l =
    (l.all.table_id ≡ g.N.PositionsName.layout.table) × (l.all.me.1 ≡ []) × (l.all.me.0.parts + length l.share-iterator.rest.items ≡ length l.fn.shares.items + 1)
    × ((i : ℕ) → slice_index l.all.me.0.added i + total (λ s. slice_index s i) l.share-iterator.rest.items ≡ slice_index l.fn.seat.me.0.added i + total (λ s. slice_index s i) l.fn.shares.items)
