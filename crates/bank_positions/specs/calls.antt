-- The rule of the words, which private functions keep. The promise of the crate stands in Sums.
pub mod Rule
