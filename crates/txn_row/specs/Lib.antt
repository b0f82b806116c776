pub mod Rows
pub mod calls
