pub mod OneReading
pub mod Scanning
pub mod Longest
pub mod Values
pub mod Reading
