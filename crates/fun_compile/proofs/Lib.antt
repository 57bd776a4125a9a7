pub mod SameNames
pub mod NameSets
pub mod FirstOnes
pub mod Putting
pub mod Groups
