pub mod Fragments
pub mod Cuts
pub mod Interleaving
pub mod Sets
pub mod Copies
pub mod Passings
pub mod Trees
pub mod Walk
