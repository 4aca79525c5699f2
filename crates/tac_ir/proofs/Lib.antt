-- What is proved of runs of three-address code.
-- What is proved of calls.
pub mod Activations
pub mod Ascending
pub mod FirstTaken
pub mod Groups
pub mod Limits
pub mod Members
pub mod Paying
pub mod Reaching
pub mod Seen
pub mod Standing
pub mod Steps
pub mod Taken
pub mod Traces
