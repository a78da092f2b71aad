pub mod Bound
pub mod Calls
pub mod Commands
pub mod Counted
pub mod FeatureGeometry
pub mod Geometry
pub mod Position
