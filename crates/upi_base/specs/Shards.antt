-- The sixteen shards of transactions and of accounts.
use Rattle.std.specs.Prelude.{ℕ, ◌+◌, ◌*◌, ◌%◌, List, [], ◌∷◌, ◌++◌}
use Rattle.upi_base.specs.declared.setup.AccountRef.{AccountRef}

-- the shard of a text, of which the bytes before these made the number h
abbrev pub shard_after : ℕ → List ℕ → ℕ
shard_after h [] = h % 16
shard_after h (b ∷ bs) = shard_after ((131 * h + b) % 65_521) bs

-- the shard of a text
abbrev pub shard : List ℕ → ℕ
shard text = shard_after 0 text

-- the shard of a transaction, by its name
abbrev pub txn_shard : List ℕ → ℕ
txn_shard t = shard t

-- an account as it is written: its bank, `/`, its number
abbrev pub account_text : AccountRef → List ℕ
account_text ac = ac.bank ++ 47 ∷ ac.num

-- the shard of an account, by its bank and its number
abbrev pub account_shard : AccountRef → ℕ
account_shard ac = shard (account_text ac)

-- the number of which a text's shard is the rest by sixteen
abbrev pub hash_after : ℕ → List ℕ → ℕ
hash_after h [] = h
hash_after h (b ∷ bs) = hash_after ((131 * h + b) % 65_521) bs
