pub mod Faults
pub mod Bytes
pub mod Fakes
pub mod Parts
pub mod Readers
