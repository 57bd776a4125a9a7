pub mod LineParts
pub mod Entries
pub mod Rooms
pub mod NextLine
pub mod Journals
pub mod Outcomes
pub mod OneVerdict
