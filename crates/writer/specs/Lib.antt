pub mod Space
pub mod SpaceLaws
pub mod Call
pub mod Shown
pub mod RefusalPromise
pub mod WritePromise
pub mod Answers
