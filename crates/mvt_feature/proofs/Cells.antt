-- Polygons whose bounds overlap, and islands in lakes.
pub mod CellLands
pub mod CellOrders
pub mod FarApart
pub mod Islands
pub mod Lakes
pub mod LyingRings
pub mod OutsideBounds
pub mod PartedCells
pub mod PolygonSpans
pub mod SettledPolygons
pub mod SharedCells
pub mod SpreadOrder
