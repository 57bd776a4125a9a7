pub mod Grown
pub mod Ends
pub mod Histories
pub mod Runs
