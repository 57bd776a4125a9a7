pub mod Symbols
pub mod Runs
pub mod Offers
pub mod Tallies
pub mod Words
