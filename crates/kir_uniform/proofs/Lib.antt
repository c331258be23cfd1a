pub mod Living
pub mod Alike
pub mod Places
pub mod Reached
pub mod UniformCells
