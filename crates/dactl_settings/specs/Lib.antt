pub mod Command
pub mod Faults
pub mod Limits
pub mod Reading
