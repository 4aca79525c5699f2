mod Once
mod Zeros
mod Ranges
pub mod LinkedRuns
