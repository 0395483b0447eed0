pub mod Printed
pub mod Standing
pub mod Answers
pub mod Told
