pub mod Made
pub mod Ways
pub mod Actions
pub mod Code
pub mod Whole
pub mod View
pub mod Forms
