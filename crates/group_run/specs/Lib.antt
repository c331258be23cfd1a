pub mod Ends
pub mod Launching
pub mod Nodes
