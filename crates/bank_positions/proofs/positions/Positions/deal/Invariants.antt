use Rattle.std.proofs.Common.{◌≡◌, ◌≤◌, ◌+◌, ◌-◌, [], length}
use Rattle.std.specs.Prelude.{All, vec_capacity}
use Rattle.bank_positions.specs.calls.Rule.{sums}
use Rattle.bank_positions.proofs.positions.Positions.deal.Given as goal

abbrev pub invariant-loop-made : goal.invariant-loop-made
invariant-loop-made g l =
    (l.seat.table_id ≡ l.fn.seat.table_id) × (l.seat.me ≡ (sums (g.N.PositionsName.layout.shards - length l.shares.items) [], [])) × (length l.shares.items + 1 ≡ l.made) × (l.made ≤ g.N.PositionsName.layout.shards)
    × All (λ share. share ≡ []) l.shares.items × (g.N.PositionsName.layout.shards ≤ vec_capacity l.shares)
