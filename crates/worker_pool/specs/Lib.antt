pub mod Jobs
pub mod calls
