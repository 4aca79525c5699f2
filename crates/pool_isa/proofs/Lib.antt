-- Each access of a run is safe.
pub mod Faults
pub mod Instrs
pub mod LivingObjects
pub mod MachineAccesses
pub mod MachineRuns
pub mod Numbers
pub mod SafeAccesses
mod Rows
