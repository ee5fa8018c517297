-- How the program serves and replays, step by step: words that only contracts of private functions cite.
pub mod Listening
pub mod Opening
pub mod Reading
pub mod Replaying
pub mod Serving
pub mod Telling
