pub mod Sums
pub mod calls
