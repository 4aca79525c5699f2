-- Searches along the edges of heap graphs that are only read: which nodes escape a function, and which are needed.
pub mod Numbers
pub mod Searching
