-- Definitions that only state contracts of private functions. No public contract rests on them.
pub mod Apart
pub mod ByteSpan
pub mod Commands
pub mod EdgeTests
pub mod FeatureMessage
pub mod HoleFault
pub mod MessageBytes
pub mod Numbers
pub mod Packed
pub mod Polygons
pub mod RingEdges
pub mod Rings
pub mod Tags
pub mod Vertices
pub mod Walking
