-- The order in which nodes of a heap graph stand in its text: depth first from some nodes, along edges in the order of their slots.
pub mod Numbers
pub mod Searching
