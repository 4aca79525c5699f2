-- The typed tree of a program has at most three nodes for each of its syntax tree.
pub mod Calls
pub mod Expressions
pub mod Operands
pub mod Operators
pub mod Programs
pub mod Statements
