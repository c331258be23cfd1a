pub mod Known
pub mod Expected
pub mod Law
