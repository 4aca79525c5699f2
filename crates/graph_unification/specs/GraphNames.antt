-- The nodes with which the graph of a group of functions begins: one for each name.
pub mod First
