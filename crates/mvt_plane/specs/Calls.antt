-- Definitions that only state contracts of private functions. No public contract rests on them.
pub mod Course
pub mod EdgeOrder
pub mod Measure
pub mod Reading
pub mod Rings
