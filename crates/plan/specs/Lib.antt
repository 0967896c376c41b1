pub mod Answers
pub mod AnswerExamples
pub mod Reading
pub mod RunPromise
pub mod Writing
pub mod Running
