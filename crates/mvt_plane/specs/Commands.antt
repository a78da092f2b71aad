-- How figures are spelled as commands (Mapbox Vector Tile Specification 2.1, section 4.3).
pub mod CommandFault
pub mod Course
pub mod Drawing
pub mod Figure
pub mod Reading
