pub mod Banks
pub mod Joins
pub mod Read
