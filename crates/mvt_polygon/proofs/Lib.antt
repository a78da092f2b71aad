pub mod ApartFaults
pub mod NestFaults
pub mod NestOnce
pub mod NotedHoles
pub mod PolygonList
pub mod PolygonSlices
pub mod RingFaults
