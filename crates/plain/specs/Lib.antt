pub mod Kinds
pub mod Words
pub mod Lawful
pub mod KindLaws
