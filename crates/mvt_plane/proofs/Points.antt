-- Rational points on edges, and the point that is named for two edges.
pub mod Bounds
pub mod CommonPointChoice
pub mod CommonPoints
pub mod CrossingLines
pub mod Crossings
pub mod EdgeTests
pub mod Lines
pub mod Means
pub mod MixedPoints
pub mod NamedPoints
pub mod NamedWhereCommon
pub mod Overlaps
pub mod PointWeights
pub mod RationalPoints
pub mod TouchingLines
