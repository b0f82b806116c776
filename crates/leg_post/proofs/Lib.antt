pub mod Answered
pub mod Opens
pub mod Runs
pub mod Views
