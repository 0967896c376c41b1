pub mod Terminal
pub mod TerminalPromise
pub mod TerminalCases
