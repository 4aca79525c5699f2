pub mod Heaps
pub mod Loaded
pub mod Pages
pub mod Promises
pub mod Regions
pub mod Run
pub mod Steps
pub mod Words
