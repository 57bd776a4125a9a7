pub mod Spelling
pub mod Lexes
pub mod Answer
pub mod Found
