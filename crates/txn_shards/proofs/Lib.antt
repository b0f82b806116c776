pub mod Changes
pub mod Calls
pub mod Histories
pub mod Outcomes
pub mod Names
pub mod OneOrder
pub mod DueLists
pub mod Gathered
