pub mod Posts
pub mod calls
