pub mod Entries
pub mod Rule
pub mod Charter
pub mod Passes
pub mod calls
