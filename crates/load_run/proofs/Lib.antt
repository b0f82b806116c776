pub mod Plays
pub mod Steps
pub mod Plain
pub mod Same
pub mod Lines
pub mod Loaded
