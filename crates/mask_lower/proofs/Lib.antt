mod Arguments
mod Begun
pub mod Ends
mod Joining
mod Lowering
mod Marks
mod Past
mod Patch
mod Room
pub mod Roots
pub mod Start
pub mod Tallies
pub mod Votes
