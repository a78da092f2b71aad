pub mod Chains
pub mod Notes
pub mod Sweeps
pub mod Vertices
