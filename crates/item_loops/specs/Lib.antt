pub mod Program
pub mod Regions
pub mod Grouped
pub mod Launched
pub mod Built
