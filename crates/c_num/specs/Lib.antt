pub mod Types
pub mod Conversion
pub mod Arith
