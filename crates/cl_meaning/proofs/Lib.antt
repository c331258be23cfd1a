pub mod Cuts
pub mod Numbers
pub mod Views
pub mod Operands
pub mod Parts
pub mod Values
