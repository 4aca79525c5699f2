-- A program within the limits has small types: those of its objects and of the pointers that it converts have exact sizes.
pub mod Bounds
pub mod Calls
pub mod Entering
pub mod Expressions
pub mod Functions
pub mod Holding
pub mod Operands
pub mod Operators
pub mod Program
pub mod Statements
pub mod Structures
pub mod Types
