pub mod Shapes
pub mod Blocks
pub mod Answering
