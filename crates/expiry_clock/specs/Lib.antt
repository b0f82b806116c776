pub mod Dues
pub mod Tree
