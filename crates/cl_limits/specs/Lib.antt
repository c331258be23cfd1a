pub mod Limits
pub mod Heights
pub mod Rounds
pub mod Points
pub mod Kernel
pub mod Judged
