pub mod Memory
pub mod Items
pub mod Runs
pub mod Clean
pub mod Law
pub mod Coming
pub mod Simulation
pub mod Histories
