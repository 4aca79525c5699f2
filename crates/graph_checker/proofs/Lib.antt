-- What is tested, and what that tells.
pub mod Adding
pub mod Before
pub mod CallSteps
pub mod ClosedGroups
pub mod CodeJudged
pub mod Decided
pub mod EdgesTold
pub mod Embedded
pub mod Filled
pub mod GraphFaults
pub mod GroupsFit
pub mod GroupsShown
pub mod Judged
pub mod Leading
pub mod Listed
pub mod Members
pub mod Needing
pub mod OwnTold
pub mod Owners
pub mod SlotsTold
pub mod SoundGraphs
pub mod TargetsAsked
mod Cases
mod ClosedCalls
mod ClosedFirst
mod ClosedObjects
mod Crossings
mod Formal
mod HeldLists
mod Keeping
mod Locals
mod Marks
mod Mentions
mod NamedParts
mod Numbers
mod Passing
mod Placing
mod SameTargets
mod StaticObjects
