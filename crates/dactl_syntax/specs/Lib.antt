pub mod Sort
pub mod Productions
pub mod Answer
pub mod Reading
pub mod Laws
pub mod Canonical
