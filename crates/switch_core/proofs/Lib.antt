pub mod Accepts
pub mod Entered
pub mod Answered
