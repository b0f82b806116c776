pub mod Accounts
pub mod Stills
pub mod Moves
pub mod Confirmations
pub mod Readers
