pub mod Numbers
pub mod ReadInto
