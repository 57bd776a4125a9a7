pub mod Lines
pub mod Rooms
pub mod Verdicts
pub mod Steps
pub mod Laws
