pub mod Printing
pub mod Texts
pub mod Order
pub mod Lines
pub mod Walks
pub mod Laws
