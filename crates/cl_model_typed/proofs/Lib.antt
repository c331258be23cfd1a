pub mod Numbers
pub mod Stack
pub mod Tasks
pub mod Exits
pub mod Steps
pub mod Histories
