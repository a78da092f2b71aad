-- The definitions, tried on known rings.
pub mod ExampleFaults
pub mod ExampleFeatures
pub mod ExampleMeetings
pub mod ExampleNeighbours
pub mod ExampleNesting
pub mod ExamplePolygons
pub mod ExampleRings
pub mod ExampleSquares
pub mod ExampleValid
