pub mod Crossing
pub mod Placing
pub mod Scopes
