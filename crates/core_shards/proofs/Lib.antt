pub mod Commits
pub mod Sums
pub mod Report
pub mod Gathered
