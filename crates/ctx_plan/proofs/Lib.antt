pub mod Onto
pub mod Names
pub mod Outlines
pub mod Texts
pub mod Counted
pub mod Held
