-- What the first values of variables outside functions ask of the graph of `start` while it is made: each acts as a store into its variable.
pub mod Closing
pub mod Completing
