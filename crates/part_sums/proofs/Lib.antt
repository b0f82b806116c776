pub mod Weights
pub mod Places
