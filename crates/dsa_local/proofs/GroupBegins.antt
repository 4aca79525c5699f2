-- The nodes with which the graph of a group of functions begins: those of their names, and of the variables outside functions and the
-- literals with which their paths begin.
pub mod Beginning
pub mod Closing
pub mod Completing
pub mod Kept
pub mod Leading
