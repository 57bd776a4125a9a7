pub mod Trees
pub mod PathLists
pub mod Gathered
