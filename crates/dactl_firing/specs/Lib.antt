pub mod Body
pub mod Fired
pub mod Site
pub mod Suspending
pub mod Waking
