pub mod Gives
pub mod Members
pub mod Reading
pub mod Sets
pub mod Starts
