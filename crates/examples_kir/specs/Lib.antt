pub mod Play
pub mod Terms
pub mod Straight
pub mod Choice
pub mod Rounds
pub mod Text
pub mod Lowered
pub mod Uniform
