pub mod Filled
pub mod Grown
pub mod Kept
pub mod Rows
pub mod Same
pub mod Splitting
pub mod StatementItems
pub mod StatementsStay
pub mod Storable
pub mod TypedStays
mod Apart
mod Building
mod Completing
mod Growth
mod Keys
mod Lists
mod Meanings
mod Members
mod Numbered
mod Offsets
mod Reading
mod Sizes
mod Steps
mod Structures
mod Tags
