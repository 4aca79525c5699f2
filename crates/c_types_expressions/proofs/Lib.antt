pub mod CTypesExpressions
pub mod Choices
pub mod Deriving
pub mod Giving
pub mod Naming
pub mod Nodes
pub mod ParameterNames
pub mod Parameters
pub mod Passing
pub mod Standing
pub mod Suffixed
mod Agreed
mod Arguments
mod Assigned
mod Calling
mod CallsPassing
mod LibraryTypes
mod MemberRules
mod ObjectRules
mod OperandSteps
mod PointedMembers
mod Prefixes
mod SteppedObjects
