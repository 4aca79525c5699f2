-- The syntax tree of a program that is read from a text has at most one node for each byte, and one for its end.
pub mod Expressions
pub mod Programs
pub mod Statements
