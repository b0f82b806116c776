pub mod Stands
pub mod Follows
pub mod MachineLaws
pub mod calls
