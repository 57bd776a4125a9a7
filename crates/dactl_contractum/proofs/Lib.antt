pub mod Drawings
pub mod Tables
pub mod DrawnTerms
pub mod Twice
pub mod ToldFaults
pub mod Suspensions
pub mod Least
pub mod Meanings
pub mod Writings
pub mod LeftSides
pub mod Listings
pub mod FirstGraphs
mod Worked
