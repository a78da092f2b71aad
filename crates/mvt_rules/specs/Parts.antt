-- What is said of one part of a tile alone, as those who search for faults, or exchange parts, use it. Laws connect it to the rest.
pub mod ByPolygon
pub mod Fields
pub mod Geometry
pub mod Rings
pub mod TrueFaults
