-- Points, edges and rings (Mapbox Vector Tile Specification 2.1, section 4.3.4).
pub mod Apart
pub mod Below
pub mod CommonPoint
pub mod EdgeOrder
pub mod Examples
pub mod Inside
pub mod Measure
pub mod RationalPoint
pub mod Ring
