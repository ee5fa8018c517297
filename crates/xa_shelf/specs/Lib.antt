pub mod Allowance
pub mod Readings
