pub mod Events
pub mod Begins
pub mod Others
pub mod Pinned
