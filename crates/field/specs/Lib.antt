pub mod Meaning
pub mod Answers
pub mod Places
pub mod Words
