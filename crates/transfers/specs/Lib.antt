pub mod Keys
pub mod Answers
