pub mod Host
pub mod Memory
pub mod Outside
