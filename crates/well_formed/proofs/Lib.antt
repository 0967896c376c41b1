pub mod Walks
pub mod Sums
pub mod EqualDisks
