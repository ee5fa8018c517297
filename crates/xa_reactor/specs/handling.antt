-- What is done for one connection, call by call: words that only contracts of private functions cite.
pub mod Going
pub mod Taking
pub mod Turning
