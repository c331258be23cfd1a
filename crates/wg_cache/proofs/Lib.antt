pub mod Apart
pub mod Files
