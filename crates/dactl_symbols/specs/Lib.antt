pub mod Least
pub mod Declaring
pub mod Finds
pub mod Meanings
pub mod Sights
pub mod Scoping
pub mod UseFaults
pub mod Counting
