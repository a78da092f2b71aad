-- The sweep over vertices, its status and its work.
pub mod LeastWork
pub mod MeetingsFound
pub mod NoMeetings
pub mod StatusCounts
pub mod StatusPlaces
pub mod StatusSteps
pub mod StepsAfterAnEnd
pub mod SweepChanges
pub mod SweepSides
pub mod SweepSlabs
pub mod SweepSteps
pub mod VertexSteps
pub mod VertexSweeps
