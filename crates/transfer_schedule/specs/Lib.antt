pub mod Stored
pub mod Schedule
pub mod Counts
pub mod Fits
pub mod Transfers
pub mod Words
pub mod TransfersPromise
pub mod TransferExamples
