-- The three-address code of a program stands as its heap graphs need it. A crate of proofs alone.
pub mod Expressions
pub mod Functions
pub mod Leading
pub mod Parts
pub mod Programs
pub mod Statements
