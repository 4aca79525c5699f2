pub mod Classes
pub mod Tables
pub mod Constants
pub mod Fronts
pub mod Tokens
pub mod Laws
