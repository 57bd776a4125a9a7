pub mod Options
pub mod Numbers
pub mod Long
pub mod Finding
