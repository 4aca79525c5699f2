-- The literals of a program that is read from a text are found at their places (C17 6.4.5).
pub mod Expressions
pub mod Programs
pub mod Statements
