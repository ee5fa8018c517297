pub mod Run
pub mod Sending
pub mod Step
pub mod Timing
pub mod Traffic
pub mod Codes
pub mod Turn
pub mod handling
