pub mod Words
pub mod Echo
pub mod Numbers
pub mod Arguments
pub mod Commands
pub mod Lines
