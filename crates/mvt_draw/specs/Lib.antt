pub mod Calls
pub mod Geometry
