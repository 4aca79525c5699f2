pub mod KnownCalls
pub mod Objects
pub mod Plain
