pub mod Closing
pub mod Fits
pub mod Gathered
pub mod Opened
pub mod Planned
pub mod Returns
pub mod Stays
