pub mod Accounts
pub mod Boards
