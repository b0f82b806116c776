pub mod Journal
pub mod Lines
pub mod Verdict
pub mod Written
pub mod Audit
pub mod Laws
pub mod calls
