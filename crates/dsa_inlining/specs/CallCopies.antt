-- Copies of the nodes that escape a function that is called, in the graph of its caller while that is made.
pub mod Telling
