pub mod Lists
pub mod Held
pub mod EntriesHold
pub mod Loops
