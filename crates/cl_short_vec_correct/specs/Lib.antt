pub mod Values
pub mod Doing
pub mod Sources
pub mod Emits
pub mod Standing
pub mod Each
pub mod Law
