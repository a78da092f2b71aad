-- The first fault of a tile's encoding.
pub mod Causes
pub mod CleanWalk
pub mod EmbeddedSpans
pub mod EndFaults
pub mod FieldFaults
pub mod FieldPlaces
pub mod FieldScans
pub mod Known
pub mod LaterParts
pub mod LayerWalk
pub mod Layers
pub mod OneMoreField
pub mod SchemaRules
pub mod TileWalk
pub mod Tiles
pub mod Walking
