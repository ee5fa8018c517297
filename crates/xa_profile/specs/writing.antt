-- How the code writes: words that only contracts of private functions cite.
pub mod Lengths
pub mod Tokens
