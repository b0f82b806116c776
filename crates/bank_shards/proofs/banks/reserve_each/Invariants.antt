use Rattle.std.proofs.Common.{◌≡◌, ◌<◌, ◌≤◌, ℕ, map, Some}
use Rattle.std.specs.Prelude.{slice_get}
use Rattle.leg_post.specs.Posts.{Ledger}
use Rattle.bank_shards.specs.Banks.{without_room}
use Rattle.bank_shards.proofs.banks.reserve_each.Given as goal

abbrev pub invariant-loop-place : goal.invariant-loop-place
invariant-loop-place l =
    (map without_room l.shards.items ≡ map without_room l.fn.shards.items)
    × ((k : ℕ) (p : Ledger) → k < l.place → slice_get l.shards.items k ≡ Some p → l.n ≤ p.spare)
