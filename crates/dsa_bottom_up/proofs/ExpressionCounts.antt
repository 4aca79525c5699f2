-- How many nodes the graph of each function begins with: one for each of its parameters and locals, and one for each of its expressions
-- of pointer, array or function type.
pub mod Agreeing
