-- Objects at targets of heap graphs that are only read, and parts of them.
pub mod Parts
