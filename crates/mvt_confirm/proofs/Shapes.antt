-- Edges, rings and polygons, as walks over them give them.
pub mod CrossingWalks
pub mod EdgeMeetings
pub mod EdgeWalks
pub mod HoleVertices
pub mod NumberedEdges
pub mod PolygonMembers
pub mod PolygonVertices
pub mod PolygonWalks
pub mod RingCounts
pub mod RingPlaces
pub mod SoundRings
