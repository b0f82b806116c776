-- The laws of the crate, gathered.
use Rattle.account_shard.specs.ShardLaws.{ShardLaws}
use Rattle.account_shard.proofs.Fits.{orders_fit}
use Rattle.account_shard.proofs.Opened.{stands_beside}
use Rattle.account_shard.proofs.Returns.{returns_are}

pub shard_laws : ShardLaws
shard_laws = record { orders_fit = orders_fit; lines_beside = stands_beside; returns = returns_are }
