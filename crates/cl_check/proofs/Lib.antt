pub mod Walking
pub mod Aside
pub mod Judging
pub mod Gathering
pub mod Deciding
pub mod Answering
