-- Objects of an accepted text have a byte at least: no structure is without members, and no array without elements.
pub mod Calls
pub mod Entering
pub mod Expressions
pub mod Functions
pub mod Holding
pub mod Operands
pub mod Operators
pub mod Program
pub mod Statements
pub mod Structures
pub mod Types
