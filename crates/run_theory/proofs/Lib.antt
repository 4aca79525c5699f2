-- What is proved of places in a text.
-- What is proved of runs, for every layer: traces, machines in small steps, how one run follows another.
pub mod Following
pub mod Machines
pub mod Places
pub mod Simulations
pub mod Traces
