-- Whether the graph of `start` keeps what the first values of variables outside functions ask: `start` stores each into its variable.
pub mod Shown
