pub mod View
pub mod Framed
pub mod Sim
pub mod Fits
