-- Definitions that only state contracts of private functions. No public contract rests on them.
pub mod Chain
pub mod Chains
pub mod Convex
pub mod EdgeBounds
pub mod FrontEdges
pub mod KeyParts
pub mod Links
pub mod Pairs
pub mod Proper
pub mod RingNotes
pub mod RingsBelow
pub mod Sides
pub mod Steps
pub mod Sweep
pub mod SweepVertices
pub mod Swept
pub mod VertexOrder
