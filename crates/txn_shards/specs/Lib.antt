pub mod Txns
pub mod TxnLaws
