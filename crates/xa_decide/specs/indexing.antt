-- How what is looked up is found in order, what names an entity, and that values are of their types: words that only
-- contracts of private functions cite.
pub mod Index
pub mod Keys
pub mod Naming
pub mod Types
