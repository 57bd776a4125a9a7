pub mod Contents
pub mod Nodes
pub mod NotGrown
pub mod Stepping
pub mod Course
pub mod Shown
