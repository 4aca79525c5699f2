-- Expressions, names of types and declarators of the whole language: which type rules they violate, and their typed trees (C17
-- 6.5, 6.7.6, 6.7.7).
pub mod Calls
