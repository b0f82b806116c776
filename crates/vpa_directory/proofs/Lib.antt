pub mod Refusals
pub mod Additions
pub mod Providers
pub mod Builds
