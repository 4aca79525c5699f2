-- The graphs of a program's groups, put together one after the other: what is told of a group's graph while it is made closes the group in
pub mod Making
