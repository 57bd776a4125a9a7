pub mod Accounts
pub mod Crossing
