pub mod Sizes
pub mod Stored
pub mod Form
pub mod Law
