-- Definitions that only state contracts of private functions. No public contract rests on them.
pub mod Ascii
pub mod Key
pub mod Numbers
pub mod Packed
pub mod Scope
