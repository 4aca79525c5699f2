-- A program has one three-address code: a relation on the typed tree tells every point. A crate of proofs alone.
pub mod Agreeing
pub mod Expressions
pub mod Functions
pub mod Parts
pub mod Programs
pub mod Statements
