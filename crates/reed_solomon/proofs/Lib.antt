pub mod Rowwise
pub mod Solving
pub mod Outcomes
pub mod Descent
pub mod Powers
pub mod Decoding
pub mod Answering
