-- How the keeper over tables reads, changes and opens: words that only contracts of private functions cite.
pub mod Check
pub mod Columns
pub mod Creation
pub mod Execution
pub mod Health
pub mod Lookup
pub mod Migration
pub mod Plan
pub mod Quiet
pub mod ShownColumns
pub mod Steps
pub mod Texts
pub mod Turns
