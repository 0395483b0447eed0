pub mod Meaning
pub mod Columns
pub mod Elimination
pub mod Numbers
pub mod Held
pub mod Answers
pub mod One
