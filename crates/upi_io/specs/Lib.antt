pub mod Faults
pub mod Streams
pub mod Lines
pub mod Steps
pub mod Memory
pub mod Standard
pub mod Status
pub mod Words
