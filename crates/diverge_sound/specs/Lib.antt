pub mod InRuns
pub mod Once
pub mod Tests
