pub mod Script
pub mod Play
pub mod End
pub mod Engine
pub mod Writing
pub mod calls
