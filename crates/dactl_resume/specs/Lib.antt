pub mod Restriction
pub mod Plain
pub mod Parts
pub mod Found
pub mod Answers
pub mod Resumed
pub mod Example
pub mod Statements
