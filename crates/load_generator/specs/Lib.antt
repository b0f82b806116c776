pub mod Draws
pub mod Users
pub mod Payments
pub mod Loads
