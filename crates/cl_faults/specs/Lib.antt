pub mod Known
pub mod View
pub mod Called
pub mod Reach
pub mod Least
