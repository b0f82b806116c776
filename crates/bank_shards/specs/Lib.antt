pub mod Banks
pub mod Histories
pub mod Flights
pub mod BankLaws
