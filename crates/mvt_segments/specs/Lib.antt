pub mod Segments
pub mod Windings
