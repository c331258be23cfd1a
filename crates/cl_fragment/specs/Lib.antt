pub mod Arms
pub mod Declares
pub mod Heads
pub mod Making
pub mod View
