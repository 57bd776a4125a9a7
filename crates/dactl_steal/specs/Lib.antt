pub mod Deques
pub mod Sums
pub mod Members
pub mod Owns
pub mod Others
pub mod Closing
pub mod Boards
pub mod Making
