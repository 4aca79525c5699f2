pub mod Adding
pub mod Labels
pub mod Marks
pub mod Names
pub mod Parts
pub mod ProgramLabels
pub mod Texts
