pub mod Reading
pub mod Simple
pub mod Offsets
pub mod Faithful
pub mod Passes
pub mod Tables
pub mod Computable
