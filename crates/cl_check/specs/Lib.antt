pub mod Walk
pub mod Gather
pub mod Checked
