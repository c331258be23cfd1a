pub mod Uniform
pub mod Does
pub mod Path
