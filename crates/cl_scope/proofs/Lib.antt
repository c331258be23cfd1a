pub mod Declaring
pub mod Departures
pub mod Products
pub mod ScopeLaws
pub mod Signatures
pub mod Trees
pub mod WalkLaws
