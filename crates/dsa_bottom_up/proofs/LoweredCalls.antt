-- Lowered code calls by name only functions of the program, and no two points of a function have one call site. A crate of proofs alone.
pub mod Expressions
pub mod Functions
pub mod Leading
pub mod Parts
pub mod Statements
