pub mod Accounts
pub mod Work
pub mod Reports
pub mod Turns
