pub mod Known
pub mod Counts
pub mod SameParameters
pub mod Reaching
pub mod LeastFaults
pub mod PlacesAside
pub mod Spreading
