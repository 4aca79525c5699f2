pub mod Standing
pub mod Comparing
pub mod Entered
