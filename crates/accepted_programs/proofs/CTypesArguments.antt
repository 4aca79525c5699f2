-- The calls of an accepted program have few arguments. A crate of proofs alone.
pub mod Bounds
pub mod Calls
pub mod Expressions
pub mod Functions
pub mod Operands
pub mod Operators
pub mod Program
pub mod Statements
pub mod Structures
pub mod Types
