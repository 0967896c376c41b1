pub mod TerminalChain
pub mod OtherRefusals
pub mod OfficeText
pub mod TerminalPromise
pub mod LongRacks
pub mod TerminalCasesHold
pub mod PromiseInstances
