pub mod Apart
pub mod Calls
pub mod InFeature
pub mod Nesting
pub mod PolygonFault
pub mod Polygons
pub mod RingFault
