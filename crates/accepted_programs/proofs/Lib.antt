-- What is proved of the calls of a program.
-- What the limits tell of structures.
pub mod Accepted
pub mod CProgramDepths
pub mod CReaderDepths
pub mod CReaderLiterals
pub mod CReaderSizes
pub mod CRulesFilled
pub mod CTypesArguments
pub mod CTypesSizes
pub mod Carried
pub mod Completed
pub mod Declared
pub mod FewParameters
pub mod FewSlots
pub mod Filling
pub mod Lengths
pub mod Listed
pub mod Nesting
pub mod Premises
pub mod Read
pub mod Rising
pub mod Texts
