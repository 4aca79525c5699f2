-- Values, places and objects of the reference in memory (C17 6.2.4, 6.2.6), and what operators do with pointers.
pub mod Holding
pub mod Promises
pub mod Views
