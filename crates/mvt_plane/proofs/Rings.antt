-- The edges of a ring, and their areas.
pub mod Areas
pub mod RingEdges
