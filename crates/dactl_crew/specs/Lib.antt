pub mod Boards
pub mod Reports
pub mod Running
pub mod Crews
pub mod Preparing
