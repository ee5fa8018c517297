pub mod Attribute
pub mod Individuals
pub mod Json
pub mod Member
pub mod parsing
pub mod Request
pub mod Response
pub mod writing
