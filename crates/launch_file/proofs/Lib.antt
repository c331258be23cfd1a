pub mod Pushed
pub mod Unique
pub mod Accepted
pub mod Limits
pub mod Order
