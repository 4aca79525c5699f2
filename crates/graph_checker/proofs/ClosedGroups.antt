-- Whether the graph of a group of functions, or that of `start`, keeps what is asked of graphs.
pub mod Groups
