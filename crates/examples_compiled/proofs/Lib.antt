pub mod Lengths
pub mod Chunks
