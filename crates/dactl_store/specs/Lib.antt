pub mod Contractum
pub mod Held
pub mod Layout
pub mod Notifying
pub mod Redirecting
pub mod Slots
pub mod Start
pub mod Table
