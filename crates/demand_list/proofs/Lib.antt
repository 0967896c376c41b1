pub mod Judging
pub mod Seen
pub mod Checking
pub mod Chunks
