-- How the code answers messages and drives connections: words that only contracts of private functions cite.
pub mod Asking
pub mod Driving
pub mod Gates
pub mod HandlingError
pub mod Lending
pub mod Replying
pub mod Sending
pub mod Viewing
pub mod Views
