pub mod Tables
pub mod Steps
pub mod Blocks
pub mod Settling
pub mod Kept
pub mod Shapes
pub mod Ending
