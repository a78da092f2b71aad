-- Geometries, number by number and vertex by vertex.
pub mod CommandWalks
pub mod MovedPositions
pub mod NextStates
pub mod RingWalks
pub mod VertexSteps
pub mod VertexWalks
