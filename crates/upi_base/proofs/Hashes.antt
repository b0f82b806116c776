-- Shards, by the number of a text.
use Rattle.std.proofs.Common.{◌≡◌, ℕ, ◌+◌, ◌*◌, ◌%◌, List, [], ◌∷◌, ◌++◌, refl}
use Rattle.upi_base.specs.Shards.{shard_after, hash_after}

pub shard_after_is : (h : ℕ) (text : List ℕ) → shard_after h text ≡ hash_after h text % 16
shard_after_is h [] = refl
shard_after_is h (b ∷ bs) = shard_after_is ((131 * h + b) % 65_521) bs

pub hash_append : (h : ℕ) (xs ys : List ℕ) → hash_after h (xs ++ ys) ≡ hash_after (hash_after h xs) ys
hash_append h [] ys = refl
hash_append h (x ∷ xs) ys = hash_append ((131 * h + x) % 65_521) xs ys
