pub mod Rows
pub mod Shard
pub mod ShardLaws
pub mod calls
