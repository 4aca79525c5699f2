-- The expressions of a program that is read from a text nest no deeper than the grammar's trees may.
pub mod Expressions
pub mod Programs
pub mod Statements
