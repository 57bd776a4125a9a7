pub mod Induction
