-- Definitions that only state contracts of private functions. No public contract rests on them.
pub mod Nesting
pub mod Rings
pub mod RingsKnown
