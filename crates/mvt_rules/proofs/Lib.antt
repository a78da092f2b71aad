pub mod Examples
pub mod Rings
pub mod Tiles
pub mod Validity
