-- Frames, static objects and numbers of functions of lowered code lie in their ranges. A crate of proofs alone.
pub mod Expressions
pub mod Functions
pub mod Statements
