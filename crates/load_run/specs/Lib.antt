pub mod LoadLines
pub mod Runs
pub mod Summaries
pub mod Laws
