pub mod Woken
pub mod Settled
pub mod Made
pub mod Moves
pub mod Ready
pub mod Flags
