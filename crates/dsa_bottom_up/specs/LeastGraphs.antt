-- The graphs of a program that are made bottom-up are the least: there is a map from them to each other closed family of the program and its
-- groups, and no flag of a node can be taken away.
pub mod Making
