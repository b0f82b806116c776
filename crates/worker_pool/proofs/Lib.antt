pub mod Counts
pub mod Moves
pub mod Running
pub mod Crews
