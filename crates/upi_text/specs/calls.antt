-- What private functions keep.
pub mod Kept
