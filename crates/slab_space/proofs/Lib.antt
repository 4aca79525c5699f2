pub mod Calls
pub mod Cells
pub mod Counts
pub mod Exhausted
pub mod Held
pub mod Inverse
pub mod LowestRun
pub mod Peaks
pub mod Pieces
pub mod Placing
pub mod RunsFound
pub mod Slabs
pub mod WithRun
pub mod WordsInside
mod PoolRows
mod Rows
mod Spaces
mod Tables
