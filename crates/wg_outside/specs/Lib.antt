pub mod Counts
pub mod Files
pub mod Bytes
pub mod Spans
pub mod MemoryStore
pub mod MemorySink
pub mod FolderStore
pub mod StdSink
