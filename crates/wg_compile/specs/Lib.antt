pub mod Passes
pub mod Ends
pub mod Shape
pub mod Correct
