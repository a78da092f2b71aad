-- Definitions that only state contracts of private functions. No public contract rests on them.
pub mod Alone
pub mod Bounds
pub mod Cells
pub mod FeatureParts
pub mod Gathered
pub mod Islands
pub mod Lands
pub mod Passings
pub mod PolygonsAround
pub mod QuickParts
