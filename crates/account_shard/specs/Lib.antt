pub mod Closing
pub mod Shard
pub mod ShardLaws
