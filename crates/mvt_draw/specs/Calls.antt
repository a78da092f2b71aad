-- Definitions that only state contracts of private functions. No public contract rests on them.
pub mod Cursor
pub mod Geometry
pub mod Given
pub mod Reach
