pub mod Translated
pub mod Knowing
pub mod Putting
