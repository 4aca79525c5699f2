-- Whether the targets of a graph are slots of its nodes, and the names that have targets are the program's.
pub mod Sound
