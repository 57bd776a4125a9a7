pub mod Compiling
pub mod Values
