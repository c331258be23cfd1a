pub mod Computed
pub mod Played
pub mod OutcomesShown
