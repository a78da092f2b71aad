pub mod Examples
pub mod Insides
pub mod Orders
pub mod Points
pub mod Rings
pub mod Spelling
