pub mod Digits
pub mod Cuts
pub mod Lookup
pub mod Readings
