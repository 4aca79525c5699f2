pub mod Findings
pub mod IntegerOperands
pub mod Named
pub mod Noted
pub mod OperandsStay
pub mod ReadValues
pub mod Steps
mod Growing
mod Listing
mod LiteralTypes
mod LiteralsAdded
mod LocalTables
mod TargetRules
