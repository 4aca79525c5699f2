-- The machine's instructions of code with pools, and that they do what it does. A crate of definitions and proofs alone.
pub mod Points
pub mod Trees
pub mod Ways
