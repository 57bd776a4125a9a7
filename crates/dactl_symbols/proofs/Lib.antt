pub mod Turns
pub mod Sooner
pub mod Single
pub mod Again
pub mod NameSteps
pub mod Entries
pub mod Walks
pub mod Layers
pub mod Joined
pub mod Found
pub mod Imported
pub mod LinkSteps
pub mod Counts
pub mod Used
pub mod Scoped
pub mod Whole
pub mod Looking
mod Worked
