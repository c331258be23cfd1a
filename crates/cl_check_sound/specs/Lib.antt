pub mod Shape
pub mod Sound
pub mod Fits
pub mod Law
pub mod Erased
