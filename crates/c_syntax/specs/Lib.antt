pub mod SyntaxDepths
pub mod SyntaxNodes
pub mod Trees
pub mod Views
