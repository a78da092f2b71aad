pub mod Encoding
pub mod FieldNumbers
pub mod NothingFound
pub mod Parts
pub mod Walking
pub mod Walks
