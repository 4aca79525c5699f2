-- Calls out of a group of functions, in a heap graph that is being made: what is passed and given is joined with the copies of the callee's
-- nodes, and so are variables outside functions and literals.
pub mod Adding
pub mod Closing
