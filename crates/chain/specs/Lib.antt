pub mod Meaning
pub mod Search
pub mod Answers
pub mod Follows
pub mod LevelNumbers
pub mod Held
pub mod Calls
