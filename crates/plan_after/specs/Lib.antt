pub mod After
pub mod AfterPromise
pub mod Marking
pub mod Held
pub mod AfterExamples
