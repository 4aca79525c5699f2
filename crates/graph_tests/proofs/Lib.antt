pub mod Made
pub mod Slots
mod Fit
mod HasSlots
mod Known
