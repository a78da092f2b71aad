-- Definitions that only state contracts of private functions. No public contract rests on them.
pub mod Faults
pub mod FirstWalk
pub mod Polygons
