pub mod Given
pub mod Knows
pub mod Literals
pub mod Narrow
pub mod Places
pub mod Rows
pub mod Small
pub mod Whole
