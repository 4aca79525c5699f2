pub mod Clap
pub mod Found
pub mod Line
pub mod Said
pub mod Seen
pub mod Status
pub mod Texts
