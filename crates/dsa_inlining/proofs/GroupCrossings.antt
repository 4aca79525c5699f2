-- All calls out of a group of functions, in the heap graph of the group while that is made: the nodes that escape the functions that are
-- called are copied, and the calls are joined with the copies.
pub mod Images
pub mod ToldGroups
