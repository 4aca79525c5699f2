-- What is proved of lowered code.
-- What is proved of first values.
-- What is proved of rewritten code.
-- What is proved of the code with one pool of an accepted program.
pub mod Aligned
pub mod Contents
pub mod DefinedRuns
pub mod Emitted
pub mod Fitting
pub mod FittingFirsts
pub mod FittingImage
pub mod Follows
pub mod Forms
pub mod FoundRows
pub mod Heights
pub mod ImagePremises
pub mod InsideObjects
pub mod Lengths
pub mod Limited
pub mod LoweredHeights
pub mod LoweredRanges
pub mod MachineRuns
pub mod Named
pub mod Numbers
pub mod Premises
pub mod Ranges
pub mod Refusing
pub mod Rewritable
pub mod Seen
pub mod StackPremises
pub mod StaticRoots
pub mod Statics
