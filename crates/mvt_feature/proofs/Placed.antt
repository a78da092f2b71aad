-- Which rings are around which, and how many polygons are around a ring.
pub mod AddedPassings
pub mod AroundEachOther
pub mod AroundVertices
pub mod CountedPassings
pub mod OwnPassings
pub mod PlacedFeatures
pub mod PlacedPolygons
pub mod PolygonCounts
pub mod PolygonOrder
pub mod RightNotes
