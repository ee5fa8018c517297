-- How the code finds documents, reads them and links them: words that only contracts of private functions cite.
pub mod Order
pub mod Orders
pub mod Placed
pub mod Progress
pub mod Reach
pub mod Room
pub mod Seen
