-- One walk over a tile, in which nothing is found to be wrong.
pub mod CutFields
pub mod Layers
pub mod Tiles
