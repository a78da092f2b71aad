-- Rings by their numbers: pairs of edges, and the polygons that rings belong to.
pub mod EdgePairs
pub mod PartsOfRings
pub mod PolygonNumbers
pub mod RingsApart
pub mod SamePolygons
