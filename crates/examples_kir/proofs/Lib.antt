mod Computed
mod Meeting
mod Uniformly
mod Holding
