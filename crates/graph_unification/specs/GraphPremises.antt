-- What is known of the code of a program before its heap graphs are made, and that then each point fits a graph with its names.
pub mod First
