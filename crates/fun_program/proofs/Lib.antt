pub mod Compiled
pub mod Values
