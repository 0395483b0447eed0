pub mod Quadratic
pub mod Triples
pub mod Table
pub mod Lawful
