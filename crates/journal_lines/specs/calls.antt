-- What private functions ensure.
pub mod Reading
