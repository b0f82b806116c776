pub mod Marked
pub mod Trying
pub mod Engines
pub mod Written
