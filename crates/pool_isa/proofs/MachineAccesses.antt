-- Which ranges of memory a step of the machine loads and stores, and that each of them is safe. A crate of definitions and proofs alone.
pub mod Rows
