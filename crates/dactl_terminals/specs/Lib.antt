pub mod Sort
pub mod Parts
pub mod Reads
pub mod Seen
pub mod Answer
