-- Whether the graphs of a program are closed, and the first group of which something that is asked doesn't hold.
pub mod Groups
