-- Lowered code has few operands at once. A crate of proofs alone.
pub mod Expressions
pub mod Functions
pub mod Leading
pub mod Parts
pub mod Statements
