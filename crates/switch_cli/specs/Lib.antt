pub mod Lines
pub mod Run
pub mod Audits
pub mod Does
pub mod calls
