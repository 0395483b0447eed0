pub mod Product
pub mod Tables
