-- How the code evaluates children one after another: words that only contracts of private functions cite.
pub mod Walk
