-- From the three-address code of a program to the groups of its functions and their heap graphs.
pub mod Made
