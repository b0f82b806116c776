-- What private functions ensure.
pub mod Pages
