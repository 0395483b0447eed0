pub mod Code
pub mod Rows
pub mod Decoding
pub mod Lawfulness
pub mod Words
pub mod Points
pub mod Sizes
