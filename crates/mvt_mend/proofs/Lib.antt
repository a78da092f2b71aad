pub mod CloseEnds
pub mod DrawnSteps
pub mod KeptPolygons
pub mod KnownMeetings
pub mod NearRings
pub mod PolygonLists
pub mod RightPolygons
