pub mod Searching
pub mod Facts
pub mod Causes
