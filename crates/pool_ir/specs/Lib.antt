pub mod Code
pub mod Frames
pub mod Words
pub mod States
pub mod Memory
pub mod Meaning
pub mod Views
