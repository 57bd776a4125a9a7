pub mod Pieces
pub mod OneOrder
pub mod NodeTexts
pub mod Numbers
pub mod Walking
