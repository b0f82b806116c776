pub mod Hands
pub mod Work
pub mod Crew
