pub mod Raw
pub mod Search
pub mod Ahead
pub mod First
pub mod Laws
