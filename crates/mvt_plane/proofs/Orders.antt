-- Numbers in order, and edges in order along a line of one key.
pub mod ClearEdges
pub mod GapPoints
pub mod Gaps
pub mod Order
pub mod Polynomials
pub mod Sides
