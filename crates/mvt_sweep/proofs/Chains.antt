-- Chains of edges, and what becomes of them in a step of the sweep.
pub mod ChainBegins
pub mod ChainEdges
pub mod ChainEnds
pub mod ChainExtremes
pub mod ChainLinks
pub mod ChainParts
pub mod ChainRelinks
pub mod ChainSteps
