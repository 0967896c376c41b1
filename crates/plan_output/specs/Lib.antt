pub mod Input
pub mod Output
pub mod KeepPromise
pub mod OutputPromise
pub mod OutputExamples
