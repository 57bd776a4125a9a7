pub mod Counting
pub mod Validity
