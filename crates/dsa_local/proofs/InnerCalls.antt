-- Calls within a group of functions, in a heap graph that is being made: arguments and formals are one, and so are calls and results;
-- functions to which one call may come through a pointer share formals and result.
pub mod Beginning
pub mod Closing
pub mod Completing
pub mod Kept
