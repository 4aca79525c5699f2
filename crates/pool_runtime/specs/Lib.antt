pub mod Bytes
pub mod Seen
pub mod Lookup
pub mod Tables
pub mod Given
pub mod Changes
