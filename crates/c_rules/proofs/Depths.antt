-- The expressions of a typed tree nest at most three nodes deep for each one of its syntax tree.
pub mod Calls
pub mod Expressions
pub mod Operands
pub mod Operators
pub mod Programs
pub mod Statements
