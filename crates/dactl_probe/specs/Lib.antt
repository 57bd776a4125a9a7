pub mod Findings
pub mod Bindings
pub mod Leading
pub mod Marks
pub mod Lost
pub mod Verdicts
pub mod Probing
pub mod Tracing
