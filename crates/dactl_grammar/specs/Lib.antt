pub mod Grammar
pub mod Reader
pub mod Answer
pub mod Giving
