pub mod Sorts
pub mod Fits
pub mod Firm
pub mod Grown
pub mod Steps
pub mod Values
pub mod Told
pub mod Answered
