-- What private functions ensure.
pub mod Steps
pub mod Trying
pub mod Keeping
