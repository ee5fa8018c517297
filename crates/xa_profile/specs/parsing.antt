-- How the code reads: words that only contracts of private functions cite.
pub mod Json
pub mod Tree
