pub mod Modulo
pub mod Remainders
