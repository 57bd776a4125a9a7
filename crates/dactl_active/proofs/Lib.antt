pub mod Round
pub mod Numbers
pub mod Linking
