pub mod ByPlace
pub mod Changes
