pub mod Fields
pub mod Ranges
pub mod Lists
pub mod Instructions
pub mod FunctionFields
pub mod KindFields
pub mod ContentFields
pub mod ImageFields
