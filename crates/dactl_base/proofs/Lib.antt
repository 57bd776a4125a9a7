pub mod Fronts
pub mod Lines
pub mod Passing
pub mod Decimals
pub mod NumberParts
pub mod NextLine
