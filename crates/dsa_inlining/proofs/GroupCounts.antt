-- How many nodes the graph of a group has before any of them are merged.
pub mod Adding
pub mod ToldGroups
