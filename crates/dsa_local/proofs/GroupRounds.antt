-- What the points of a group's functions ask is done to a graph that is being made, in rounds, until nothing is left to do; and what is told of
-- allocations at the end.
pub mod Closing
