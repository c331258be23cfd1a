pub mod Known
pub mod Rounds
pub mod Listed
pub mod Marks
