pub mod Statements
pub mod Example
