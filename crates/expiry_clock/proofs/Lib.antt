pub mod Repairs
pub mod Values
pub mod Plants
pub mod Finds
pub mod Changes
pub mod DueLists
pub mod OneList
