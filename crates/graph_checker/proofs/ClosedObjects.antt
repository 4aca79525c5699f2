-- What heap graphs ask of formals, of locals in memory, of variables outside functions and of literals.
pub mod Found
pub mod Shown
