-- What laws alone speak of.
pub mod Examples
