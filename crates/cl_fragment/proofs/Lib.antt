pub mod Arguments
pub mod Declaring
pub mod Lists
pub mod Loops
pub mod Making
pub mod Updates
