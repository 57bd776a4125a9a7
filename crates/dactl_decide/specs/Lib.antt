pub mod Paths
pub mod PathTrees
pub mod Decisions
pub mod Gathering
pub mod Orders
