pub mod PageAsBox
pub mod WordsWritten
mod WordsRead
