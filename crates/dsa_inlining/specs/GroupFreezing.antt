-- From the graph of a group that was made to the one that is only read, with the names of the group's functions.
pub mod Groups
