-- What is inside a ring, by the parity of edges.
pub mod BelowSlanted
pub mod DirectlyBelow
pub mod EdgeParity
pub mod EdgeRows
pub mod EdgesBelow
pub mod InsideAsAWhole
pub mod InsideEdges
pub mod InsideParity
pub mod PointsUnder
pub mod SlantedPlane
