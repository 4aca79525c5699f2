pub mod Conversions
pub mod Outcomes
pub mod Words
