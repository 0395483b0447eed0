pub mod Kinds
pub mod Inside
