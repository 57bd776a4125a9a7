pub mod Crossing
pub mod Endings
pub mod Later
pub mod Nodes
pub mod Numbers
pub mod Turns
