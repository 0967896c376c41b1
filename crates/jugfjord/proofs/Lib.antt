pub mod Refusals
pub mod LongRacks
pub mod ReadInto
pub mod NumbersHold
