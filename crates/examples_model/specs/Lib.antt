pub mod Play
pub mod Terms
pub mod Straight
pub mod Barriers
pub mod Outcomes
