-- What calls ask of heap graphs: of arguments, of results, of the nodes that escape the function that is called, and of functions to which
-- one call may come.
pub mod Found
