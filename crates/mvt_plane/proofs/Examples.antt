-- The definitions of geometry, tried on known rings.
pub mod ExampleNames
pub mod ExamplePositions
pub mod ExampleTriangle
