pub mod Lists
pub mod Moves
pub mod Seats
pub mod Passes
pub mod Counts
pub mod Homes
pub mod Closing
