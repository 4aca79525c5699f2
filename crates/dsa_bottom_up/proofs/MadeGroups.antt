-- That the graph of a group is closed once all is told of it that is asked: what was told while it was made holds of its certain nodes.
pub mod Classes
pub mod Functions
