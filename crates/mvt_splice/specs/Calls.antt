-- Definitions that only state contracts of private functions. No public contract rests on them.
pub mod Fates
pub mod Messages
pub mod Writing
