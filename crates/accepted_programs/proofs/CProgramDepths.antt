-- The expressions of the typed tree of a program whose text is accepted nest at most 1,024 nodes deep.
pub mod Programs
