-- What is copied and what is written in place of it.
pub mod Encodings
pub mod FieldsBetween
pub mod Layers
pub mod Messages
pub mod OrderedChanges
pub mod Pieces
pub mod Redrawing
pub mod Tiles
pub mod Walks
