pub mod Appending
pub mod CalledKnown
pub mod Found
pub mod MarksAdded
pub mod ScopesWithin
pub mod Statics
