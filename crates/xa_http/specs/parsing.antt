-- How the code reads heads: words that only contracts of private functions cite.
pub mod Front
pub mod OpenHead
