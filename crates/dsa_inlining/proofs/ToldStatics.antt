-- The variables outside functions and the literals of which the heap graphs of groups tell: what a group's own functions mention, and what
-- the graphs of the groups tell whose functions these call.
pub mod Telling
