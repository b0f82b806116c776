pub mod Reading
pub mod Tries
pub mod Marks
pub mod Playing
pub mod Ending
