pub mod SyntaxRows
