pub mod Lists
pub mod Going
pub mod Weights
pub mod Parts
pub mod Wholes
