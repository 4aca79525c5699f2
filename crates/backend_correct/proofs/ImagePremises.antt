-- The code with one pool of an accepted program fits an image. A crate of proofs alone.
pub mod Expressions
pub mod Functions
pub mod Leading
pub mod Parts
pub mod Statements
