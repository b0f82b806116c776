-- What private functions ensure. The promise of the crate stands in the model's definitions of settlement.
pub mod Lists
pub mod Settled
